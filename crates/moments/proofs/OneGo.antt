-- Many ticks in one step: what k ticks that are given to one server, within its budget, make of it, and what k idle ticks do. The
-- rules know only one tick; `OneGoLaws` shows that they come to this.
use Prim.Native.Nat.{ℕ, ◌-◌}
use lib.ListN.{set}
use mathlib.Core.Bool.{cond}
use Rattle.clock.specs.Clock.{later, ticks}
use Rattle.dispatcher.specs.Moves.{standing}
use Rattle.dispatcher.specs.Pick.{server_at}
use Rattle.dispatcher.specs.declared.Dispatcher.{Dispatcher}
use Rattle.server.specs.Moves.{postponed, spent}
use Rattle.server.specs.Server.{holding}
use Rattle.server.specs.declared.Server.{Server}

-- k ticks less to spend and to do
abbrev pub less_by : Server → ℕ → Server
less_by s k = holding s (ticks (s.remaining.ticks - k)) s.deadline (ticks (s.waiting.ticks - k))

-- and postponed where that spends the budget
unfoldable pub served_for : Server → ℕ → Server
served_for s k = cond (spent (less_by s k)) (postponed (less_by s k)) (less_by s k)

-- the dispatcher k ticks later, with or without one server's work
abbrev pub later_by : Dispatcher → ℕ → Dispatcher
later_by d k = standing d (later d.clock (ticks k)) d.servers

abbrev pub ran_for : Dispatcher → ℕ → ℕ → Dispatcher
ran_for d i k = standing d (later d.clock (ticks k)) (set d.servers i (served_for (server_at d i) k))
