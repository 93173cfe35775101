-- The report of an accepted file, line by line: what is added from a run's lists and records is the report.
use Prim.Native.Nat.{ℕ, zero, suc, min}
use lib.ListN.{length, take, get_or, length-take}
use mathlib.Core.List.{List, [], ◌∷◌}
use mathlib.Core.Path.{◌≡◌, refl, ◌∙◌, ap, ap₂}
use native.Mathlib.Omega.{arith}
use Rattle.booking.specs.Admission.{shares}
use Rattle.counting.proofs.PlacesLaws.{length_places}
use Rattle.finish.specs.Finish.{finish_list}
use Rattle.sizes.specs.Sizes.{most_arrivals, most_shown}
use Rattle.summary.specs.Summary.{trace_of, blank, summary_of}
use Rattle.summary.specs.declared.Summary.{Summary}
use Rattle.page.proofs.PageLaws.{adds_as, adds_then}
use Rattle.page.specs.Page.{Added, each}
use Rattle.page.specs.declared.Page.{Page}
use Rattle.trace.proofs.WrittenLaws.{written_length}
use Rattle.trace.specs.Written.{fitting, segment_in}
use Rattle.trace.specs.declared.Segment.{Segment}
use Rattle.workfile.specs.Work.{Work, work}
use Rattle.report.specs.DayReport.{admitted_line, segment_line, segment_lines, segments_line, job_line, server_line, accepted_report}
use Rattle.report.specs.Working.AfterRun.{AfterRun, job_in}
use Rattle.report.proofs.AfterRunLaws.{jobs_told, segments_told, servers_told}

-- as many as are taken are the same again
take_counted : (n : ℕ) (l : List Segment) → take (length (take n l)) l ≡ take n l
take_counted zero l = refl
take_counted (suc n) [] = refl
take_counted (suc n) (s ∷ l) = ap (◌∷◌ s) (take_counted n l)

module _ {file list ends : List ℕ} {segments : ℕ} {records : List Summary} (told : AfterRun file list ends segments records) where
  abbrev w : Work
  w = work file

  -- as many segments as the list holds, or all
  shown_is : (shown : ℕ) → shown ≡ fitting segments list → shown ≡ length (take most_shown (trace_of w))
  shown_is shown e =
      omega (
        arith,
        e,
        told.segments_is,
        ap length told.list_is,
        written_length (trace_of w) told.list_before,
        told.list_long,
        length-take most_shown (trace_of w),
      )

  -- the finish list has a place for every job
  pub ends_long : length ends ≡ most_arrivals
  unfolding finish_list
  ends_long = ap length told.ends_is ∙ length_places _ _ ∙ told.ends_long

  segments_shown : (shown : ℕ) → shown ≡ fitting segments list
      → each shown (λ k. segment_line (segment_in list k)) ≡ segment_lines (take most_shown (trace_of w))
  segments_shown shown e =
      ap (λ (l : List ℕ). each shown (λ k. segment_line (segment_in l k))) told.list_is
      ∙ segments_told (trace_of w) told.list_before shown (omega (arith, few)) (omega (arith, few, told.list_long))
      ∙ ap segment_lines (ap (λ (n : ℕ). take n (trace_of w)) (shown_is shown e) ∙ take_counted most_shown (trace_of w))
    where
      few : shown ≡ min most_shown (length (trace_of w))
      few = shown_is shown e ∙ length-take most_shown (trace_of w)

  jobs_shown : each w.arrivals (job_in w ends) ≡ each w.arrivals (job_line w)
  jobs_shown =
      ap (λ (l : List ℕ). each w.arrivals (job_in w l)) told.ends_is
      ∙ jobs_told w told.ends_before told.accepted.fit.horizon (omega (arith, told.accepted.fit.arrivals, told.ends_long))

  servers_shown : each w.table.count (λ i. server_line i (get_or records i blank)) ≡ each w.table.count (λ i. server_line i (summary_of w i))
  servers_shown =
      ap (λ (l : List Summary). each w.table.count (λ i. server_line i (get_or l i blank))) told.records_is
      ∙ servers_told w told.accepted.fit.servers

  -- the parts one behind the other
  pub report_told : (shown : ℕ) {p q₁ q₂ q₃ q₄ q₅ : Page ℕ} → shown ≡ fitting segments list
      → Added (admitted_line (shares w.frame w.table) w.frame.ticks) p q₁
      → Added (each shown (λ k. segment_line (segment_in list k))) q₁ q₂
      → Added (segments_line segments shown) q₂ q₃
      → Added (each w.arrivals (job_in w ends)) q₃ q₄
      → Added (each w.table.count (λ i. server_line i (get_or records i blank))) q₄ q₅
      → Added (accepted_report w (trace_of w)) p q₅
  report_told shown e one two three four five =
      adds_then
      (adds_then
      (adds_then (adds_then one (adds_as (segments_shown shown e) two)) (adds_as (ap₂ segments_line told.segments_is (shown_is shown e)) three))
      (adds_as jobs_shown four))
      (adds_as servers_shown five)
