-- The ticks of segments, from a moment on.
use Rattle.std.specs.Prelude.{ℕ, ◌+◌, min, Bool, cond, List, [], ◌∷◌}
use Rattle.clock.specs.Clock.{later, until}
use Rattle.clock.specs.declared.Moment.{Moment}
use Rattle.history.specs.Choice.{Choice, given}
use Rattle.trace.specs.declared.Segment.{Segment}

-- the moment at which a segment ends
abbrev pub end_of : Segment → Moment
end_of s = later s.start s.length

-- how many of its ticks lie at moment a or later
abbrev pub ticks_from : Moment → Segment → ℕ
ticks_from a s = min s.length.ticks (until a (end_of s)).ticks

-- as many where its server and deadline pass a test, else none
abbrev pub ticks_of : (Choice → Bool) → Moment → Segment → ℕ
ticks_of p a s = cond (p (given s.server s.deadline)) (ticks_from a s) 0

-- a number for each segment, added up
unfoldable pub sum_over : (Segment → ℕ) → List Segment → ℕ
sum_over f [] = 0
sum_over f (s ∷ more) = f s + sum_over f more
