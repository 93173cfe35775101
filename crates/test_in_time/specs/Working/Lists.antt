-- What this program knows of the lists that a run has left, and what it reads from them.
use Rattle.std.specs.Prelude.{ℕ, ◌≤◌, ◌<◌, eqb, leb, ltb, length, get_or, Bool, not, ◌&&◌, ◌||◌, List, ◌≡◌}
use Rattle.arrival.specs.declared.Arrival.{Arrival}
use Rattle.callers.specs.Traces.{ListDemand3}
use Rattle.counting.specs.Below.{every}
use Rattle.counting.specs.Sum.{sum}
use Rattle.demand_3.specs.Files.{NoWorkAt}
use Rattle.demand_3.specs.Got.{is_under}
use Rattle.judgement.proofs.FitLaws.{Fit}
use Rattle.trace.specs.Ticks.{ticks_of}
use Rattle.trace.specs.Written.{fitting, segment_in}
use Rattle.trace.specs.declared.Segment.{Segment}
use Rattle.workfile.specs.Work.{Work, work}
use Rattle.test_in_time.specs.declared.bandwidth.Window.{Window}

-- the file was accepted, and so the lists tell what demand 3 says, and when a server has no work waiting
pub record AfterRun (file list : List ℕ) (segments : ℕ) (ends : List ℕ) : Type 0 where
  pub fit : Fit (work file) (length ends)
  pub demand : ListDemand3 (work file) segments list
  pub no_work : (i a : ℕ) → a ≤ (work file).horizon.tick
      → ((k : ℕ) → k < (work file).arrivals → ((work file).arrival k).server ≡ i → ((work file).arrival k).moment.tick < a → get_or ends k 0 ≤ a)
      → NoWorkAt (work file) i a

-- a window's server stands in the table, and the window starts no later than the horizon
abbrev pub in_run : Window → Work → Bool
in_run w v = ltb w.server v.table.count && leb w.from.tick v.horizon.tick

-- a job with such a finish does not wait for the window's server at its start: it is another's, or arrives no earlier, or has finished
abbrev pub is_done : Window → Arrival → ℕ → Bool
is_done w job finish =
    not (eqb job.server w.server) || leb w.from.tick job.moment.tick || leb finish w.from.tick

-- no job does
abbrev pub all_done : Window → Work → List ℕ → Bool
all_done w v ends = every v.arrivals (λ k. is_done w (v.arrival k) (get_or ends k 0))

-- what the server got by a segment, and by the segments that a list holds of so many
abbrev pub got_of : Window → Segment → ℕ
got_of w = ticks_of (is_under w.server w.to) w.from

abbrev pub got_by : Window → ℕ → List ℕ → ℕ
got_by w segments list = sum (fitting segments list) (λ k. got_of w (segment_in list k))
