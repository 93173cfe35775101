-- Laws of moments and lengths.
use Prim.Native.Nat.{◌≤◌}
use mathlib.Core.Path.{◌≡◌, ap}
use native.Mathlib.Omega.{arith}
use Rattle.clock.specs.declared.Moment.{Moment}
use Rattle.clock.specs.Clock.{moment, later, until, last_tick, up_to_last}

-- a moment up to the last stays as it is
pub up_to_last_whole : (m : Moment) → m.tick ≤ last_tick → up_to_last m ≡ m
up_to_last_whole m h = ap moment (omega arith)

-- to go on from a moment by what a later one lies ahead leads there
pub later_until : (from to : Moment) → from.tick ≤ to.tick → later from (until from to) ≡ to
later_until from to h = ap moment (omega arith)
