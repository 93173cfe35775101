-- `report::lines::job` meets its promise: the number, the server and the moment, and then what the one test tells: whether the finish list's
-- number stands for an open job.
use Prim.Native.Nat.{ℕ}
use mathlib.Core.List.{[], ◌∷◌}
use mathlib.Core.Path.{sym, ◌∙◌, ap}
use Rattle.clock.specs.Clock.{moment}
use Rattle.clock.specs.declared.Length.{Length}
use Rattle.finish.proofs.ListLaws.{finish_of_open, finish_of_at}
use Rattle.finish.specs.Finish.{Finish, finished_at}
use Rattle.page.proofs.PageLaws.{adds_as, adds_then}
use Rattle.report.specs.DayReport.{finish_fields}
use Rattle.std.specs.Prelude.{codes}
use Rattle.text.specs.Line.{decimal, goes_on, number}
use Rattle.report.proofs.PartsLaws.{two_parts, three_parts}
use Rattle.report.proofs.lines.job.Goals as goal

pub returns-then-finish-eq-OPEN_JOB : goal.returns-then-finish-eq-OPEN_JOB
returns-then-finish-eq-OPEN_JOB c =
    let a = c.args.a in
    adds_as (three_parts (codes "job ") (decimal c.args.k) (codes " ") (decimal a.server) (codes " ") (decimal a.moment.tick) _)
    (adds_then c.numbers.ensures
    (adds_as (ap (λ (f : Finish). goes_on (finish_fields a.moment f)) (sym (finish_of_open _ c.if-finish-eq-OPEN_JOB.true))) c.add.ensures))

pub returns : goal.returns
returns c =
    let a = c.args.a in
    adds_as (three_parts (codes "job ") (decimal c.args.k) (codes " ") (decimal a.server) (codes " ") (decimal a.moment.tick) _)
    (adds_then c.numbers.ensures
    (adds_as
    (two_parts (codes " ") _ (codes " ") _ (goes_on [])
    ∙ ap (λ (l : Length). goes_on (number c.from.result ∷ number l.ticks ∷ [])) c.until-response.ensures
    ∙ ap (λ (n : ℕ). goes_on (finish_fields a.moment (finished_at (moment n)))) c.from.ensures
    ∙ ap (λ (f : Finish). goes_on (finish_fields a.moment f)) (sym (finish_of_at _ c.if-finish-eq-OPEN_JOB.false)))
    c.line.ensures))
