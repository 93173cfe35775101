-- The lent trace list (document 01): "Four 64-bit numbers: start, length, server, deadline"; it "holds the first of them, as many
-- whole segments as fit; every later place is untouched."
use Rattle.std.specs.Prelude.{ℕ, ◌+◌, ◌*◌, ◌/◌, min, leb, length, get_or, cond, List, [], ◌∷◌, ◌++◌}
use Rattle.clock.specs.Clock.{moment, ticks}
use Rattle.page.specs.Page.{added}
use Rattle.trace.specs.declared.Segment.{Segment}

-- "Four 64-bit numbers: start, length, server, deadline"
abbrev pub numbers : Segment → List ℕ
numbers s = s.start.tick ∷ s.length.ticks ∷ s.server ∷ s.deadline.tick ∷ []

-- a list that holds the first segments, as many whole ones as fit, and then its own numbers
unfoldable pub written : List Segment → List ℕ → List ℕ
written [] list = list
written (s ∷ more) (a ∷ b ∷ c ∷ d ∷ rest) = numbers s ++ written more rest
written (s ∷ more) [] = []
written (s ∷ more) (a ∷ []) = a ∷ []
written (s ∷ more) (a ∷ b ∷ []) = a ∷ b ∷ []
written (s ∷ more) (a ∷ b ∷ c ∷ []) = a ∷ b ∷ c ∷ []

-- how many of so many segments a list holds: "as many whole segments as fit"
abbrev pub fitting : ℕ → List ℕ → ℕ
fitting segments list = min segments (length list / 4)

-- the segment of four such numbers
abbrev pub segment_of : (start length server deadline : ℕ) → Segment
segment_of a k i d = record { start = moment a; length = ticks k; server = i; deadline = moment d }

-- the segment in places 4 × k on of a trace list
abbrev pub segment_in : List ℕ → ℕ → Segment
segment_in list k = segment_of (get_or list (4 * k) 0) (get_or list (4 * k + 1) 0) (get_or list (4 * k + 2) 0) (get_or list (4 * k + 3) 0)

-- a list with segment k in its four places, from 4 × k on, where it has all four, and any other place untouched; where it has not, as it was
unfoldable pub put : ℕ → Segment → List ℕ → List ℕ
put k s list = cond (leb (4 * k + 4) (length list)) (added (numbers s) (list, 4 * k)).0 list
