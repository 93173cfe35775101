-- What a run has left tells of the report.
use Prim.Native.Nat.{ℕ}
use mathlib.Core.List.{List}
use mathlib.Core.Path.{◌≡◌, sym, ◌∙◌, ap}
use lib.ListN.{length}
use Rattle.books.proofs.Accepted.{judged_accepted}
use Rattle.judgement.specs.Judgement.{judged}
use Rattle.refusal.specs.Refusals.{Said, accepted, number_of, on_paper, place_of}
use Rattle.refusal.specs.declared.Refusal.{Refusal}
use Rattle.std.specs.Prelude.{Ok, Err}
use Rattle.run.proofs.OutcomeLaws.{outcome_verdict, ran_accepting}
use Rattle.run.specs.Outcome.{Outcome, accepted_run, run_says, outcome}
use Rattle.run.specs.declared.Ran.{Ran}
use Rattle.sizes.specs.Sizes.{most_arrivals, trace_numbers}
use Rattle.summary.specs.Summary.{trace_of}
use Rattle.workfile.specs.Work.{work}
use Rattle.report.specs.DayReport.{refused_line, accepted_report, report_of, day_report}
use Rattle.report.specs.Working.AfterRun.{AfterRun}

-- What a run has left beside lists as long as the report lends them.
pub record Left (file after ended : List ℕ) (ran : Ran) : Type 0 where
  pub list : List ℕ
  pub ends : List ℕ
  pub list_long : length list ≡ trace_numbers
  pub ends_long : length ends ≡ most_arrivals
  pub ran_is : run_says ran after ended ≡ outcome file list ends

module _ {file after ended : List ℕ} {r : Ran} (left : Left file after ended r) where
  -- the verdict is the file's
  verdict_is : judged file most_arrivals ≡ on_paper r.verdict
  verdict_is =
      ap (judged file) (sym left.ends_long)
      ∙ sym (outcome_verdict file left.list left.ends)
      ∙ sym (ap (λ (o : Outcome). o.verdict) left.ran_is)

  pub report_refused : (why : Refusal) → r.verdict ≡ Err why → day_report file ≡ refused_line (number_of why) (place_of why)
  unfolding day_report
  report_refused why v = ap (λ (s : Said (Unit {0})). report_of s (work file)) (verdict_is ∙ ap on_paper v)

  module _ (v : r.verdict ≡ Ok tt) where
    fine : judged file most_arrivals ≡ accepted
    fine = verdict_is ∙ ap on_paper v

    pub report_accepted : day_report file ≡ accepted_report (work file) (trace_of (work file))
    unfolding day_report
    report_accepted = ap (λ (s : Said (Unit {0})). report_of s (work file)) fine

    gives : run_says r after ended ≡ accepted_run (work file) left.list left.ends
    gives = ran_accepting file left.list left.ends after ended r left.ran_is v

    pub ran_told : AfterRun file after ended r.segments r.summaries
    ran_told =
        record {
          accepted = judged_accepted file most_arrivals fine;
          list_before = left.list;
          ends_before = left.ends;
          list_long = left.list_long;
          ends_long = left.ends_long;
          list_is = ap (λ (o : Outcome). o.trace_left) gives;
          ends_is = ap (λ (o : Outcome). o.finishes_left) gives;
          segments_is = ap (λ (o : Outcome). o.segments) gives;
          records_is = ap (λ (o : Outcome). o.records) gives;
        }
