-- Demand 3: "On an admitted table, from a fresh start, under any arrivals: take a server and a moment a when it has no work waiting, and
-- any moment b from a on. The ticks that it gets from a on under deadlines no later than b, times its period, are at most (b minus a)
-- times its budget. And at every moment, once that moment's arrivals are in, each server with work waiting has its deadline still ahead;
-- so each tick ends no later than the deadline that it was given under, however far any society overruns."
use Rattle.std.specs.Prelude.{ℕ, ◌≤◌, ◌<◌, Bool, true, false, List, ◌≡◌}
use Rattle.booking.specs.Admission.{Table, admission}
use Rattle.clock.specs.declared.Length.{Length}
use Rattle.clock.specs.declared.Moment.{Moment}
use Rattle.dispatcher.specs.Course.{Move, after}
use Rattle.dispatcher.specs.Moves.{tick}
use Rattle.dispatcher.specs.declared.Turn.TheVariants.{Ran}
use Rattle.dispatcher.specs.Pick.{server_at}
use Rattle.dispatcher.specs.Start.{at_start}
use Rattle.dispatcher.specs.declared.Dispatcher.{Dispatcher}
use Rattle.refusal.specs.Refusals.{gave, accepted}
use Rattle.server.specs.Server.{idle}
use Rattle.sizes.specs.Sizes.{most_frame, most_servers}
use Rattle.demand_3.specs.Got.{got, WithinBandwidth}

-- Of a table and its dispatcher at the start:
pub record Demand3 (start : Dispatcher) (t : Table) : Type 0 where
  -- Moves have led to where server i has no work waiting; the clock there shows the moment a, be it before, among or after the arrivals of
  -- a. The ticks that it gets by any further moves under deadlines no later than b are within its bandwidth. (So none where b is before a.)
  pub bandwidth : (moves : List Move) (i : ℕ) → i < t.count → idle (server_at (after start moves) i) ≡ true
      → (b : Moment) (further : List Move)
      → WithinBandwidth (t.booking i) (after start moves).clock b (got i b (after start moves) further)
  -- Wherever moves have led to, a server with work waiting has its deadline ahead.
  pub deadlines_ahead : (moves : List Move) (i : ℕ) → i < t.count → idle (server_at (after start moves) i) ≡ false
      → (after start moves).clock.tick < (server_at (after start moves) i).deadline.tick
  -- And a tick that is given to a server ends no later than the deadline that it was given under.
  pub ticks_in_time : (moves : List Move) (i : ℕ) (deadline : Moment) (postponed : Bool)
      → (tick (after start moves)).answer ≡ gave (Ran i deadline postponed)
      → (tick (after start moves)).dispatcher.clock.tick ≤ deadline.tick

-- "On an admitted table, from a fresh start": of every frame and table within the sizes of the rules. `Demand3Laws` proves it.
abbrev pub OnAdmittedTables : Type 0
OnAdmittedTables =
    (H : Length) (t : Table) → 1 ≤ H.ticks → H.ticks ≤ most_frame → t.count ≤ most_servers → admission H t ≡ accepted
    → Demand3 (at_start H t) t
