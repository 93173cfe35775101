-- How long the whole day report is.
use Prim.Native.Nat.{ℕ, ◌*◌, ◌≤◌, ◌<◌}
use lib.ListN.{length, length-append, length-take, take}
use mathlib.Core.List.{List, [], ◌∷◌, ◌++◌}
use mathlib.Core.Path.{◌≡◌, refl}
use native.Mathlib.Nat.{le_trans}
use native.Mathlib.Omega.{arith}
use Rattle.booking.specs.Admission.{shares}
use Rattle.books.proofs.Jobs.FinishList.{response_by}
use Rattle.history.specs.Choice.{Choice, nobody, given}
use Rattle.judgement.proofs.FitLaws.{Fit, judged_fit}
use Rattle.judgement.proofs.RefusedLaws.{Listed, judged_listed}
use Rattle.judgement.specs.Judgement.{judged}
use Rattle.moments.proofs.GivenLaws.{InRange, history_in_range}
use Rattle.moments.specs.Moments.{history}
use Rattle.refusal.specs.Refusals.{Said, refused, gave}
use Rattle.sizes.specs.Sizes.{clock_end, most_arrivals, most_shown}
use Rattle.summary.proofs.BoundLaws.{summary_bounded}
use Rattle.summary.specs.Summary.{trace_of, finishes, summary_of}
use Rattle.page.proofs.EachLaws.{each_length}
use Rattle.page.proofs.PageLaws.{added_whole}
use Rattle.page.specs.Page.{added, each}
use Rattle.trace.proofs.SegmentLaws.{every_take, begun_few, begun_every}
use Rattle.trace.specs.Segments.{EverySegment}
use Rattle.trace.specs.Trace.{segments_of}
use Rattle.trace.specs.declared.Segment.{Segment}
use Rattle.workfile.specs.Work.{Work, work}
use Rattle.report.specs.DayReport.{admitted_line, segment_line, segment_lines, segments_line, job_line, server_line, accepted_report, report_of, day_report, most_bytes}
use Rattle.report.proofs.LineLengthLaws.{refused_length, admitted_length, segment_length, segments_length, job_length, server_length}

-- a segment whose line has at most 41 bytes
abbrev Short : Segment → Type 0
Short s = length (segment_line s) ≤ 41

segments_short : (c : Choice) → InRange c → (b k : ℕ) → b ≤ clock_end → k ≤ clock_end → EverySegment Short (segments_of c b k)
segments_short nobody r b k x y = tt
segments_short (given i d) r b k x y = (segment_length _ x y r.0 r.1, tt)

short_length : (l : List Segment) → EverySegment Short l → length (segment_lines l) ≤ length l * 41
unfolding segment_lines
short_length [] x = omega arith
short_length (s ∷ l) x = omega (arith, x.0, short_length l x.1, length-append (segment_line s) (segment_lines l))

-- the five parts of a report
parts_length : (a b c d e : List ℕ) → length a ≤ 26 → length b ≤ 83_968 → length c ≤ 28 → length d ≤ 147_456 → length e ≤ 7_104
    → length (a ++ b ++ c ++ d ++ e) ≤ most_bytes
parts_length a b c d e la lb lc ld le =
    omega (
      arith,
      length-append a b,
      length-append (a ++ b) c,
      length-append (a ++ b ++ c) d,
      length-append (a ++ b ++ c ++ d) e,
    )

-- Of an accepted work.
module _ {w : Work} {places : ℕ} (fit : Fit w places) where
  trace_few : length (trace_of w) ≤ clock_end
  trace_few = le_trans (begun_few (history w) w.horizon.tick w.horizon.tick) fit.horizon

  trace_short : EverySegment Short (trace_of w)
  trace_short =
      begun_every (history w) w.horizon.tick Short
      (λ b k some ends all before behind. segments_short (history w b) (history_in_range fit b) b k (omega (arith, fit.horizon)) (omega (arith, fit.horizon)))
      w.horizon.tick
      (omega arith)

  shown_few : length (take most_shown (trace_of w)) ≤ most_shown
  shown_few = omega (arith, length-take most_shown (trace_of w))

  segment_lines_fit : length (segment_lines (take most_shown (trace_of w))) ≤ 83_968
  segment_lines_fit =
      omega (arith, short_length (take most_shown (trace_of w)) (every_take Short most_shown (trace_of w) trace_short), shown_few)

  job_line_fit : (k : ℕ) → k < w.arrivals → length (job_line w k) ≤ 36
  unfolding job_line
  job_line_fit k listed =
      job_length w k (finishes w k) (omega (arith, fit.arrivals)) (omega (arith, (fit.sound k listed).known, fit.servers))
      (omega (arith, fit.in_time k listed, fit.horizon))
      (le_trans (response_by w w.horizon.tick k) fit.horizon)

  job_lines : length (each w.arrivals (job_line w)) ≤ 147_456
  job_lines = omega (arith, each_length w.arrivals 36 (job_line w) job_line_fit, fit.arrivals)

  server_lines : length (each w.table.count (λ i. server_line i (summary_of w i))) ≤ 7_104
  server_lines =
      omega (
        arith,
        each_length w.table.count 111 (λ i. server_line i (summary_of w i))
            (λ i b. server_length fit i (summary_of w i) b (summary_bounded w (λ k l. response_by w w.horizon.tick k) i)),
        fit.servers,
      )

  accepted_fits : length (accepted_report w (trace_of w)) ≤ most_bytes
  accepted_fits =
      parts_length (admitted_line (shares w.frame w.table) w.frame.ticks) (segment_lines (take most_shown (trace_of w)))
      (segments_line (length (trace_of w)) (length (take most_shown (trace_of w))))
      (each w.arrivals (job_line w))
      (each w.table.count (λ i. server_line i (summary_of w i)))
      (admitted_length (shares w.frame w.table) w.frame.ticks fit.admitted.within fit.frame_to)
      segment_lines_fit
      (segments_length (length (trace_of w)) (length (take most_shown (trace_of w))) trace_few shown_few)
      job_lines
      server_lines

-- no report is longer
pub report_fits : (file : List ℕ) → length (day_report file) ≤ most_bytes
unfolding day_report
report_fits file = go (judged file most_arrivals) refl (judged_listed file most_arrivals)
  where
    go : (said : Said (Unit {0})) → judged file most_arrivals ≡ said → Listed said → length (report_of said (work file)) ≤ most_bytes
    go (refused n place) e x = omega (arith, refused_length n place x.0 x.1)
    go (gave u) e x = accepted_fits (judged_fit file most_arrivals e)

-- so a text of that many bytes gets the whole report, and what is before the answered place is the report and nothing else
pub report_whole : (file before after : List ℕ) (end : ℕ) → most_bytes ≤ length before
    → (after, end) ≡ added (day_report file) (before, 0) → take end after ≡ day_report file
report_whole file before after end room e = added_whole (day_report file) before after end (le_trans (report_fits file) room) e
