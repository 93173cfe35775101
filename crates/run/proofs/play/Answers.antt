-- `run::play` meets its promise: the run leaves the trace and the finishes, and what the finishes and the counts tell is the summary.
use mathlib.Core.Path.{◌∙◌}
use native.Mathlib.Omega.{arith}
use Rattle.books.proofs.Accepted.{judged_accepted}
use Rattle.books.proofs.Jobs.AtLeastOne.{response_positive}
use Rattle.judgement.proofs.FitLaws.{judged_fit}
use Rattle.records.proofs.RecordsLaws.{records_of_run}
use Rattle.refusal.specs.Refusals.{accepted}
use Rattle.run.proofs.OutcomeLaws.{made}
use Rattle.run.proofs.play.Goals as goal

pub travel-went-requires : goal.travel-went-requires
travel-went-requires c =
    let pre = c.requires in record { accepted = judged_accepted _ _ pre; file_in_bounds = (judged_fit _ _ pre).finishes }

pub returns : goal.returns
returns c =
    let came = c.travel-went.ensures in
    let pre = c.requires in
    let fit = judged_fit _ _ pre in
    made accepted came.segments_is
    (c.of_run.ensures
    ∙ records_of_run _ _ _ fit.finishes (omega (arith, fit.horizon)) (response_positive _ _ pre)
    (λ k b. omega (arith, fit.in_time k b, fit.horizon))
    came.finishes_is
    _
    _
    came.postponed_is came.interrupted_is)
    came.list_is
    came.finishes_is
