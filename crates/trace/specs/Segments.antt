-- What every segment of a trace has.
use Rattle.std.specs.Prelude.{ℕ, suc, ◌+◌, ◌≤◌, ◌<◌, List, [], ◌∷◌, ◌≡◌}
use Rattle.history.specs.Choice.{given, History}
use Rattle.trace.specs.declared.Segment.{Segment}
use Rattle.trace.specs.Ticks.{end_of}

-- every segment of a list has P
abbrev pub EverySegment : (Segment → Type 0) → List Segment → Type 0
EverySegment P [] = Unit {0}
EverySegment P (s ∷ more) = P s × EverySegment P more

-- A segment is "a longest stretch of consecutive ticks given to one server under one deadline": it has ticks, all before the horizon and all
-- given so; the tick before its first is not, nor is the one behind its last, where that comes before the horizon.
pub record Stretch (h : History) (N : ℕ) (s : Segment) : Type 0 where
  pub some : 1 ≤ s.length.ticks
  pub ends : (end_of s).tick ≤ N
  pub all : (q : ℕ) → q < s.length.ticks → h (s.start.tick + q) ≡ given s.server s.deadline
  pub before : (t : ℕ) → suc t ≡ s.start.tick → h t ≡ given s.server s.deadline → ⊥
  pub behind : (end_of s).tick < N → h (end_of s).tick ≡ given s.server s.deadline → ⊥
