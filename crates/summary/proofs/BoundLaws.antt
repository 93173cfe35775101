-- How great the numbers of a summary are.
use Prim.Native.Nat.{ℕ, ◌+◌, ◌*◌, ◌≤◌, ◌<◌}
use lib.ListN.{length}
use mathlib.Core.Bool.{Bool, true, false, cond}
use mathlib.Core.List.{List, [], ◌∷◌}
use native.Mathlib.Nat.{le_trans}
use native.Mathlib.Omega.{arith}
use Rattle.counting.proofs.CountLaws.{count_le}
use Rattle.counting.specs.Totals.{total, longest}
use Rattle.finish.specs.Finish.{Finish, is_job}
use Rattle.moments.proofs.PostponedLaws.{postponed_le}
use Rattle.moments.specs.Moments.{history}
use Rattle.trace.proofs.SegmentLaws.{begun_few}
use Rattle.trace.specs.Ticks.{sum_over}
use Rattle.trace.specs.Trace.{trace}
use Rattle.trace.specs.declared.Segment.{Segment}
use Rattle.workfile.specs.Work.{Work}
use Rattle.summary.specs.declared.Response.{Response}
use Rattle.summary.specs.declared.Response.TheVariants.{Absent, Over}
use Rattle.summary.specs.declared.Summary.{Summary}
use Rattle.summary.specs.Summary.{response_of, response_in, responses_of, responses, arrived_of, how_many, interrupted_of, finishes, summary_of}
use Rattle.summary.proofs.SummaryLaws.{total_of, finished_le, responses_total}

-- no number of a list is more than their total
longest_le_total : (l : List ℕ) → longest l ≤ total l
unfolding longest total
longest_le_total [] = omega arith
longest_le_total (n ∷ l) = omega (arith, longest_le_total l)

-- a response whose numbers are at most n
abbrev pub AtMost : ℕ → Response → Type 0
AtMost n Absent = Unit {0}
AtMost n (Over total longest) = (total.ticks ≤ n) × (longest.ticks ≤ n)

response_at_most : (n : ℕ) (l : List ℕ) → total_of (response_in l) ≤ n → AtMost n (response_in l)
unfolding response_in total_of
response_at_most n [] h = tt
response_at_most n (r ∷ more) h = (h, le_trans (longest_le_total (r ∷ more)) h)

responses_at_most : (w : Work) (f : ℕ → Finish) (i N : ℕ) → ((k : ℕ) → k < w.arrivals → longest (response_of w k (f k)) ≤ N)
    → AtMost (w.arrivals * N) (responses w f i)
unfolding responses
responses_at_most w f i N each = response_at_most (w.arrivals * N) (responses_of w f i w.arrivals) (responses_total w f i N each)

-- what passes a test is no more than there is
pub how_many_le : (p : Segment → Bool) (l : List Segment) → how_many p l ≤ length l
unfolding how_many sum_over
how_many_le p [] = omega arith
how_many_le p (s ∷ l) = go (p s) (how_many_le p l)
  where
    go : (b : Bool) → how_many p l ≤ length l → cond b 1 0 + how_many p l ≤ length (s ∷ l)
    go true h = omega arith
    go false h = omega arith

interrupted_le : (w : Work) (i : ℕ) → interrupted_of w i ≤ w.horizon.tick
unfolding interrupted_of
interrupted_le w i =
    le_trans (how_many_le _ (trace (history w) w.horizon.tick)) (begun_few (history w) w.horizon.tick w.horizon.tick)

arrived_le : (w : Work) (i : ℕ) → arrived_of w i ≤ w.arrivals
unfolding arrived_of
arrived_le w i = count_le w.arrivals (is_job w i)

-- A summary that counts no more jobs than arrivals, and no more postponements and interruptions than ticks.
pub record Bounded (w : Work) (s : Summary) : Type 0 where
  pub arrived : s.arrived ≤ w.arrivals
  pub finished : s.finished ≤ w.arrivals
  pub postponed : s.postponed ≤ w.horizon.tick
  pub interrupted : s.interrupted ≤ w.horizon.tick
  pub response : AtMost (w.arrivals * w.horizon.tick) s.response

-- the summary of a work is such, where no response is longer than the horizon
pub summary_bounded : (w : Work) → ((k : ℕ) → k < w.arrivals → longest (response_of w k (finishes w k)) ≤ w.horizon.tick)
    → (i : ℕ) → Bounded w (summary_of w i)
unfolding summary_of
summary_bounded w by i =
    record {
      arrived = arrived_le w i;
      finished = finished_le w (finishes w) i;
      postponed = postponed_le w i w.horizon.tick;
      interrupted = interrupted_le w i;
      response = responses_at_most w (finishes w) i w.horizon.tick by;
    }
