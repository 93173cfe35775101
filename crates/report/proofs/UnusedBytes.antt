-- "Bytes in gaps and behind the end are ignored": files that differ in such bytes alone have the same day report.
use Prim.Native.Nat.{ℕ, ◌<◌}
use lib.ListN.{length, take}
use mathlib.Core.List.{List, ◌++◌}
use mathlib.Core.Path.{◌≡◌, refl, ◌∙◌, ap, ap₂}
use Rattle.arrival.specs.declared.Arrival.{Arrival}
use Rattle.booking.specs.Admission.{shares}
use Rattle.booking.proofs.AdmissionLaws.{shares_same}
use Rattle.books.proofs.SameWork.{finish_same, summary_same, trace_same}
use Rattle.finish.specs.Finish.{Finish}
use Rattle.judgement.proofs.UnusedLaws.{arrival_same, booking_same, header_same}
use Rattle.judgement.specs.Judgement.{judged}
use Rattle.judgement.specs.Unused.{SameUse}
use Rattle.refusal.specs.Refusals.{Said, gave, refused}
use Rattle.run.proofs.UnusedBytes.{judged_same}
use Rattle.sizes.specs.Sizes.{most_arrivals, most_shown}
use Rattle.summary.specs.Summary.{summary_of, trace_of}
use Rattle.page.proofs.EachLaws.{each_same}
use Rattle.page.specs.Page.{each}
use Rattle.trace.specs.declared.Segment.{Segment}
use Rattle.workfile.specs.Layout.{header}
use Rattle.workfile.specs.Work.{Work, work, work_under}
use Rattle.workfile.specs.declared.Header.{Header}
use Rattle.report.specs.DayReport.{accepted_report, admitted_line, day_report, job_line, job_with, report_of, segment_lines, segments_line, server_line}

module _ {file other : List ℕ} (same : SameUse file other) where
  -- what each file holds under the one header
  abbrev w : Work
  w = work_under (header file) file

  abbrev v : Work
  v = work_under (header file) other

  job_same : (k : ℕ) → k < w.arrivals → job_line w k ≡ job_line v k
  unfolding job_line
  job_same k l = ap₂ (λ (x : Arrival) (f : Finish). job_with x k f) (arrival_same same k l) (finish_same _ _ _ _ (booking_same same) (arrival_same same) k l)

  report_same : accepted_report w (trace_of w) ≡ accepted_report v (trace_of v)
  report_same =
      ap₂ (λ (n : ℕ) (l : List Segment). admitted_line n w.frame.ticks ++ segment_lines (take most_shown l)
      ++ segments_line (length l) (length (take most_shown l)) ++ each w.arrivals (job_line w)
      ++ each w.table.count (λ i. server_line i (summary_of w i)))
      (shares_same _ _ (booking_same same))
      (trace_same _ _ _ _ (booking_same same) (arrival_same same))
      ∙ ap₂ (λ (jobs servers : List ℕ). admitted_line (shares v.frame v.table) v.frame.ticks ++ segment_lines (take most_shown (trace_of v))
      ++ segments_line (length (trace_of v)) (length (take most_shown (trace_of v))) ++ jobs ++ servers)
      (each_same w.arrivals (job_line w) (job_line v) job_same)
      (each_same w.table.count (λ i. server_line i (summary_of w i)) (λ i. server_line i (summary_of v i))
      (λ i l. ap (server_line i) (summary_same _ _ _ _ (booking_same same) (arrival_same same) i)))

  accepted_same : accepted_report (work file) (trace_of (work file)) ≡ accepted_report (work other) (trace_of (work other))
  unfolding work
  accepted_same = report_same ∙ ap (λ (x : Header). accepted_report (work_under x other) (trace_of (work_under x other))) (header_same same)

-- so the report of the one is the report of the other
pub unused_unreported : (file other : List ℕ) → SameUse file other → day_report file ≡ day_report other
unfolding day_report
unused_unreported file other same =
    ap (λ (s : Said (Unit {0})). report_of s (work file)) (judged_same same most_arrivals) ∙ go (judged other most_arrivals)
  where
    go : (s : Said (Unit {0})) → report_of s (work file) ≡ report_of s (work other)
    go (refused number place) = refl
    go (gave u) = accepted_same same
