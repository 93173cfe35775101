-- Segments as numbers and back: what a list holds that is just long enough for them.
use Prim.Native.Nat.{ℕ, ◌*◌, ◌/◌, ◌<◌}
use lib.ListN.{length, get_or}
use lib.Seq.{ext_get_or}
use mathlib.Core.List.{List, [], ◌∷◌, ◌++◌}
use mathlib.Core.Path.{◌≡◌, refl, sym, ◌∙◌, ap}
use native.Mathlib.Omega.{arith}
use Rattle.counting.proofs.PlacesLaws.{length_places, get_d_places}
use Rattle.counting.specs.Places.{places}
use Rattle.trace.specs.declared.Segment.{Segment}
use Rattle.trace.specs.Written.{numbers, written, segment_in}
use Rattle.trace.proofs.HeldLaws.{segment_at}

-- the numbers of segments, one behind the other
unfoldable pub numbers_of : List Segment → List ℕ
numbers_of [] = []
numbers_of (s ∷ more) = numbers s ++ numbers_of more

-- the whole segments of a list of numbers
abbrev pub segments_in : List ℕ → List Segment
segments_in list = places (length list / 4) (segment_in list)

numbers_of_length : (l : List Segment) → length (numbers_of l) ≡ 4 * length l
unfolding numbers_of
numbers_of_length [] = refl
numbers_of_length (s ∷ l) = omega (arith, numbers_of_length l)

-- a list that has room for just so many holds nothing else
pub written_numbers_of : (l : List Segment) (list : List ℕ) → length list ≡ 4 * length l → written l list ≡ numbers_of l
unfolding written numbers_of
written_numbers_of [] [] e = refl
written_numbers_of [] (a ∷ list) e = let no : ⊥ = omega arith in absurd no
written_numbers_of (s ∷ l) [] e = let no : ⊥ = omega arith in absurd no
written_numbers_of (s ∷ l) (a ∷ []) e = let no : ⊥ = omega arith in absurd no
written_numbers_of (s ∷ l) (a ∷ b ∷ []) e = let no : ⊥ = omega arith in absurd no
written_numbers_of (s ∷ l) (a ∷ b ∷ c ∷ []) e = let no : ⊥ = omega arith in absurd no
written_numbers_of (s ∷ l) (a ∷ b ∷ c ∷ d ∷ list) e = ap (λ (r : List ℕ). numbers s ++ r) (written_numbers_of l list (omega arith))

-- and the segments are read back from their numbers
pub segments_in_numbers_of : (l : List Segment) → segments_in (numbers_of l) ≡ l
segments_in_numbers_of l = ext_get_or none (segments_in list) l long (λ k b. same k (omega (arith, long)))
  where
    list : List ℕ
    list = numbers_of l

    none : Segment
    none = segment_in [] 0

    long : length (segments_in list) ≡ length l
    long = length_places (length list / 4) (segment_in list) ∙ omega (arith, numbers_of_length l)

    same : (k : ℕ) → k < length l → get_or (segments_in list) k none ≡ get_or l k none
    same k h =
        get_d_places (length list / 4) (segment_in list) k none (omega (arith, numbers_of_length l))
        ∙ ap (λ (r : List ℕ). segment_in r k) (sym (written_numbers_of l list (numbers_of_length l)))
        ∙ segment_at l list k none h (omega (arith, numbers_of_length l))
