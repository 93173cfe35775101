-- How long the lines of the day report are, while their numbers are within the ranges of an accepted file.
use Prim.Native.Nat.{ℕ, ◌+◌, ◌-◌, ◌*◌, ◌≤◌, ◌<◌}
use lib.ListN.{length}
use mathlib.Core.List.{[], ◌∷◌}
use native.Mathlib.Nat.{mul-le-mul}
use native.Mathlib.Omega.{arith}
use Rattle.counting.specs.Totals.{longest}
use Rattle.finish.specs.Finish.{Finish, is_open, finished_at}
use Rattle.judgement.proofs.FitLaws.{Fit}
use Rattle.sizes.specs.Sizes.{clock_end, most_arrivals, most_frame, most_servers, most_shown}
use Rattle.summary.proofs.BoundLaws.{AtMost, Bounded}
use Rattle.summary.specs.Summary.{response_of}
use Rattle.summary.specs.declared.Response.TheVariants.{Absent, Over}
use Rattle.summary.specs.declared.Response.{Response}
use Rattle.summary.specs.declared.Summary.{Summary}
use Rattle.text.proofs.LengthLaws.{decimal_length, line_length}
use Rattle.text.specs.Line.{word, number, bytes_of}
use Rattle.trace.specs.declared.Segment.{Segment}
use Rattle.workfile.specs.Work.{Work}
use Rattle.report.specs.DayReport.{refused_line, admitted_line, segment_line, segments_line, job_with, total_field, longest_field, server_line}

-- a `refused` line has at most 15 bytes
pub refused_length : (n place : ℕ) → n ≤ 9 → place ≤ most_arrivals → length (refused_line n place) ≤ 15
refused_length n place a b =
    omega (
      arith,
      line_length "refused" (number n ∷ number place ∷ []),
      decimal_length 0 n (omega arith),
      decimal_length 3 place (omega arith),
    )

-- an `admitted` line at most 26
pub admitted_length : (sum frame : ℕ) → sum ≤ frame → frame ≤ most_frame → length (admitted_line sum frame) ≤ 26
admitted_length sum frame a b =
    omega (
      arith,
      line_length "admitted" (number sum ∷ word "of" ∷ number frame ∷ []),
      decimal_length 5 sum (omega arith),
      decimal_length 5 frame (omega arith),
    )

-- a `segment` line at most 41
pub segment_length : (s : Segment) → s.start.tick ≤ clock_end → s.length.ticks ≤ clock_end → s.server < most_servers
    → s.deadline.tick ≤ most_frame * (clock_end + 1) → length (segment_line s) ≤ 41
segment_length s a b c d =
    omega (
      arith,
      line_length "segment"
          (number s.start.tick ∷ number s.length.ticks ∷ number s.server ∷ number s.deadline.tick ∷ []),
      decimal_length 6 s.start.tick (omega arith),
      decimal_length 6 s.length.ticks (omega arith),
      decimal_length 1 s.server (omega arith),
      decimal_length 12 s.deadline.tick (omega arith),
    )

-- a `segments` line at most 28
pub segments_length : (count shown : ℕ) → count ≤ clock_end → shown ≤ most_shown → length (segments_line count shown) ≤ 28
segments_length count shown a b =
    omega (
      arith,
      line_length "segments" (number count ∷ word "shown" ∷ number shown ∷ []),
      decimal_length 6 count (omega arith),
      decimal_length 3 shown (omega arith),
    )

-- a `job` line at most 36, since the job finishes before twice the clock's end
pub job_length : (w : Work) (k : ℕ) (f : Finish) → k < most_arrivals → (w.arrival k).server < most_servers
    → (w.arrival k).moment.tick < clock_end → longest (response_of w k f) ≤ clock_end → length (job_with (w.arrival k) k f) ≤ 36
unfolding longest
job_length w k is_open a b c by =
    let m = (w.arrival k).moment.tick in
    omega (
      arith,
      line_length "job" (number k ∷ number (w.arrival k).server ∷ number m ∷ word "open" ∷ word "-" ∷ []),
      decimal_length 3 k (omega arith),
      decimal_length 1 (w.arrival k).server (omega arith),
      decimal_length 6 m (omega arith),
    )
job_length w k (finished_at u) a b c by =
    let m = (w.arrival k).moment.tick in
    let t = u.tick in
    omega (
      arith,
      line_length "job" (number k ∷ number (w.arrival k).server ∷ number m ∷ number t ∷ number (t - m) ∷ []),
      decimal_length 3 k (omega arith),
      decimal_length 1 (w.arrival k).server (omega arith),
      decimal_length 6 m (omega arith),
      decimal_length 6 t (omega arith),
      decimal_length 6 (t - m) (omega arith),
    )

response_length : (n : ℕ) (r : Response) → AtMost n r → n < 10_000_000_000
    → (length (bytes_of (total_field r)) ≤ 10) × (length (bytes_of (longest_field r)) ≤ 10)
response_length n Absent x h = (omega arith, omega arith)
response_length n (Over total longest) x h =
    (decimal_length 9 total.ticks (omega (arith, x.0)), decimal_length 9 longest.ticks (omega (arith, x.1)))

-- a `server` line at most 111
pub server_length : {w : Work} {places : ℕ} → Fit w places → (i : ℕ) (s : Summary) → i < w.table.count → Bounded w s
    → length (server_line i s) ≤ 111
unfolding server_line
server_length {w} fit i s here b =
    omega (
      arith,
      line_length "server"
          (number i ∷ word "arrived" ∷ number s.arrived ∷ word "finished" ∷ number s.finished
          ∷ word "total" ∷ total_field s.response ∷ word "longest" ∷ longest_field s.response
          ∷ word "postponed" ∷ number s.postponed ∷ word "interrupted" ∷ number s.interrupted ∷ []),
      decimal_length 1 i (omega (arith, fit.servers)),
      decimal_length 3 s.arrived (omega (arith, b.arrived, fit.arrivals)),
      decimal_length 3 s.finished (omega (arith, b.finished, fit.arrivals)),
      response_length (w.arrivals * w.horizon.tick) s.response b.response most,
      decimal_length 6 s.postponed (omega (arith, b.postponed, fit.horizon)),
      decimal_length 6 s.interrupted (omega (arith, b.interrupted, fit.horizon)),
    )
  where
    most : w.arrivals * w.horizon.tick < 10_000_000_000
    most = omega (arith, mul-le-mul {n₂ = most_arrivals} {m₂ = clock_end} fit.arrivals fit.horizon)
