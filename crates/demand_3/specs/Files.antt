-- Demand 3 for the run of a work file, moment by moment.
use Rattle.std.specs.Prelude.{ℕ, ◌+◌, ◌-◌, ◌≤◌, ◌<◌, true, false, List, ◌⊎◌, ◌≡◌}
use Rattle.clock.specs.Clock.{moment}
use Rattle.clock.specs.declared.Moment.{Moment}
use Rattle.counting.specs.Count.{count}
use Rattle.dispatcher.specs.Pick.{server_at}
use Rattle.history.specs.Choice.{given}
use Rattle.judgement.specs.Judgement.{judged}
use Rattle.moments.specs.Moments.{at_moment, ready, history}
use Rattle.refusal.specs.Refusals.{accepted}
use Rattle.server.specs.Server.{idle}
use Rattle.workfile.specs.Work.{Work, work}
use Rattle.demand_3.specs.Got.{is_under, WithinBandwidth}

module _ (w : Work) where
  -- the horizon N, at which the run stops
  abbrev N : ℕ
  N = w.horizon.tick

  -- server i has "no work waiting" at moment a, which "may be read before or after the arrivals of a"
  abbrev pub NoWorkAt : (i a : ℕ) → Type 0
  NoWorkAt i a = (idle (server_at (at_moment w a) i) ≡ true) ⊎ (idle (server_at (ready w a) i) ≡ true)

  -- the ticks that server i gets from moment a on, up to N, under deadlines no later than b
  abbrev pub got_from : (i a : ℕ) → Moment → ℕ
  got_from i a b = count (N - a) (λ q. is_under i b (history w (a + q)))

  pub record FileDemand3 : Type 0 where
    -- "take a server and a moment a when it has no work waiting, and any moment b from a on"
    pub bandwidth : (i a : ℕ) → i < w.table.count → NoWorkAt i a → (b : Moment)
        → WithinBandwidth (w.table.booking i) (moment a) b (got_from i a b)
    -- "at every moment, once that moment's arrivals are in, each server with work waiting has its deadline still ahead"
    pub deadlines_ahead : (i a : ℕ) → i < w.table.count → a ≤ N → idle (server_at (ready w a) i) ≡ false
        → a < (server_at (ready w a) i).deadline.tick
    -- "each tick ends no later than the deadline that it was given under"
    pub ticks_in_time : (i a : ℕ) (deadline : Moment) → a < N → history w a ≡ given i deadline → a + 1 ≤ deadline.tick

-- Of every file that is accepted, beside a finish list of so many places. `FilesLaws` proves it.
abbrev pub OfAcceptedFiles : Type 0
OfAcceptedFiles = (file : List ℕ) (places : ℕ) → judged file places ≡ accepted → FileDemand3 (work file)
