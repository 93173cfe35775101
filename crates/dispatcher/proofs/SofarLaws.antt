-- What the loop of `picking::pick` knows of the servers that it has looked at.
use Prim.Native.Nat.{ℕ}
use mathlib.Core.Path.{◌≡◌}
use Rattle.std.specs.Prelude.{Option, MatchOption}
use Rattle.clock.specs.declared.Moment.{Moment}
use Rattle.dispatcher.specs.Pick.{server_at, Earliest, NoneWorks}
use Rattle.dispatcher.specs.declared.Dispatcher.{Dispatcher}

-- of the first k: none works, or the best is the earliest, with its deadline
abbrev pub Sofar : Dispatcher → ℕ → Option (ℕ × Moment) → Type 0
Sofar d k best = MatchOption best (NoneWorks d k) (λ p. Earliest d k p.0 × (p.1 ≡ (server_at d p.0).deadline))
