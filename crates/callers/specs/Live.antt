-- Demand 3 for whoever calls the live moves: what is known of the dispatcher that a caller holds, and of what the next tick answers.
use Rattle.std.specs.Prelude.{ℕ, ◌≤◌, ◌<◌, Bool, true, false, List, Ok, ◌≡◌}
use Rattle.booking.specs.Admission.{Table}
use Rattle.clock.specs.declared.Length.{Length}
use Rattle.clock.specs.declared.Moment.{Moment}
use Rattle.demand_3.specs.Demand3.{Demand3}
use Rattle.demand_3.specs.Got.{got, WithinBandwidth}
use Rattle.dispatcher.specs.Course.{Move, after}
use Rattle.dispatcher.specs.Moves.{tick, reply_says}
use Rattle.dispatcher.specs.Pick.{server_at}
use Rattle.dispatcher.specs.declared.Dispatcher.{Dispatcher}
use Rattle.dispatcher.specs.declared.Reply.{Reply}
use Rattle.dispatcher.specs.declared.Turn.{Turn}
use Rattle.dispatcher.specs.declared.Turn.TheVariants.{Ran}
use Rattle.opening.specs.Opening.{listed, table_judged, opening}
use Rattle.refusal.specs.Refusals.{accepted}
use Rattle.server.specs.Server.{idle}

-- moves have led from one dispatcher to another
pub record Led (start d : Dispatcher) : Type 0 where
  pub moves : List Move
  pub to : d ≡ after start moves

-- the same, and n of their ticks went to server i under deadlines no later than b
pub record LedCounting (i : ℕ) (b : Moment) (start d : Dispatcher) (n : ℕ) : Type 0 where
  pub moves : List Move
  pub to : d ≡ after start moves
  pub counted : n ≡ got i b start moves

-- what holds of a dispatcher that a caller holds, its table being t
pub record LiveDemand3 (t : Table) (d : Dispatcher) : Type 0 where
  -- server i has no work waiting: the n ticks that it gets by any moves from here to e, under deadlines no later than b, are within its
  -- bandwidth
  pub bandwidth : (i : ℕ) → i < t.count → idle (server_at d i) ≡ true → (b : Moment) (e : Dispatcher) (n : ℕ) → LedCounting i b d e n
      → WithinBandwidth (t.booking i) d.clock b n
  -- a server with work waiting has its deadline ahead
  pub deadlines_ahead : (i : ℕ) → i < t.count → idle (server_at d i) ≡ false → d.clock.tick < (server_at d i).deadline.tick
  -- a tick that answers a server and a deadline has ended by that deadline
  pub ticks_in_time : (r : Reply Turn) → reply_says r ≡ tick d → (i : ℕ) (deadline : Moment) (postponed : Bool)
      → r.answer ≡ Ok (Ran i deadline postponed) → r.dispatcher.clock.tick ≤ deadline.tick

-- Of every live table, a list of Q, T pairs and H, that is accepted; and of wherever moves lead from there. `LiveLaws` proves both.
abbrev pub OfAcceptedOpenings : Type 0
OfAcceptedOpenings = (l : List ℕ) (H : Length) → table_judged l H ≡ accepted → Demand3 (opening l H).dispatcher (listed l)

abbrev pub WhereverMovesLead : Type 0
WhereverMovesLead = (start : Dispatcher) (t : Table) → Demand3 start t → (d : Dispatcher) → Led start d → LiveDemand3 t d
