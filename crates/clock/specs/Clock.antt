-- "A moment on the clock and a length of work or time are kept apart: a deadline is a moment, a budget is a length. Two moments
-- are never added." (document 01) Moments and lengths of these definitions are numbers without a bound.
use Rattle.std.specs.Prelude.{ℕ, ◌+◌, ◌-◌, min}
use Rattle.clock.specs.declared.Length.{Length}
use Rattle.clock.specs.declared.Moment.{Moment}

abbrev pub moment : ℕ → Moment
moment t = record { tick = t }

abbrev pub ticks : ℕ → Length
ticks n = record { ticks = n }

-- a moment plus a length is a moment
abbrev pub later : Moment → Length → Moment
later from by = moment (from.tick + by.ticks)

-- the difference of two moments is a length; one that has passed lies no way ahead
abbrev pub until : Moment → Moment → Length
until from to = ticks (to.tick - from.tick)

-- the last moment that 64 bits can hold
abbrev pub last_tick : ℕ
last_tick = 18_446_744_073_709_551_615

-- what 64 bits hold of a moment: the moment itself, up to the last one
abbrev pub up_to_last : Moment → Moment
up_to_last m = moment (min m.tick last_tick)
