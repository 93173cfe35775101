-- Which server a tick goes to (document 01, "One moment of the clock", step 2): "Among servers with waiting work the one with the
-- earliest deadline runs; equal deadlines go to the lower number. If there is none, the tick is idle."
use Rattle.std.specs.Prelude.{ℕ, ◌≤◌, ◌<◌, leb, get_or, Bool, not, ◌&&◌, ◌||◌, true, false, ◌≡◌}
use Rattle.counting.specs.Below.{every}
use Rattle.counting.specs.First.{first}
use Rattle.server.specs.Server.{vacant, passed_over}
use Rattle.server.specs.declared.Server.{Server}
use Rattle.dispatcher.specs.declared.Dispatcher.{Dispatcher}

-- the server at place i, and a vacant one where there is no place
abbrev pub server_at : Dispatcher → ℕ → Server
server_at d i = get_or d.servers i vacant

-- server i is not passed over, and of those that are not none has an earlier deadline
unfoldable pub may_run : Dispatcher → ℕ → Bool
may_run d i =
    not (passed_over (server_at d i))
    && every d.count (λ j. passed_over (server_at d j) || leb (server_at d i).deadline.tick (server_at d j).deadline.tick)

-- the lowest number of those, and the count of servers where there is none
unfoldable pub picked : Dispatcher → ℕ
picked d = first d.count (may_run d)

-- "Among servers with waiting work the one with the earliest deadline runs; equal deadlines go to the lower number." Of the first k
-- servers, that one is i:
pub record Earliest (d : Dispatcher) (k i : ℕ) : Type 0 where
  pub among : i < k
  pub works : passed_over (server_at d i) ≡ false
  pub least : (j : ℕ) → j < k → passed_over (server_at d j) ≡ false → (server_at d i).deadline.tick ≤ (server_at d j).deadline.tick
  pub ties : (j : ℕ) → j < k → passed_over (server_at d j) ≡ false → (server_at d j).deadline.tick ≡ (server_at d i).deadline.tick → i ≤ j

-- all of the first k are passed over
abbrev pub NoneWorks : Dispatcher → ℕ → Type 0
NoneWorks d k = (j : ℕ) → j < k → passed_over (server_at d j) ≡ true
