-- What a lent list holds of a trace: its first segments, which have what all have, and add up to no more than all.
use Prim.Native.Nat.{ℕ, zero, suc, ◌+◌, ◌*◌, ◌≤◌, ◌<◌}
use lib.ListN.{length, get_or}
use mathlib.Core.List.{List, [], ◌∷◌}
use mathlib.Core.Path.{◌≡◌, refl, ap, ap₂, subst⁻¹}
use native.Mathlib.Nat.{le_of_suc-le-suc, not-suc-le-zero}
use native.Mathlib.Omega.{arith}
use Rattle.counting.proofs.SumLaws.{sum_front}
use Rattle.counting.specs.Sum.{sum}
use Rattle.trace.specs.declared.Segment.{Segment}
use Rattle.trace.specs.Segments.{EverySegment}
use Rattle.trace.proofs.SegmentLaws.{every_at}
use Rattle.trace.specs.Ticks.{sum_over}
use Rattle.trace.specs.Written.{segment_in, written}

-- segment k stands in the list where it fits
pub segment_at : (tr : List Segment) (list : List ℕ) (k : ℕ) (d : Segment) → k < length tr → 4 * k + 4 ≤ length list
    → segment_in (written tr list) k ≡ get_or tr k d
unfolding written
segment_at [] list k d h fits = absurd (not-suc-le-zero h)
segment_at (s ∷ tr) [] k d h fits = let no : ⊥ = omega arith in absurd no
segment_at (s ∷ tr) (a ∷ []) k d h fits = let no : ⊥ = omega arith in absurd no
segment_at (s ∷ tr) (a ∷ b ∷ []) k d h fits = let no : ⊥ = omega arith in absurd no
segment_at (s ∷ tr) (a ∷ b ∷ c ∷ []) k d h fits = let no : ⊥ = omega arith in absurd no
segment_at (s ∷ tr) (a ∷ b ∷ c ∷ e ∷ list) zero d h fits = refl
segment_at (s ∷ tr) (a ∷ b ∷ c ∷ e ∷ list) (suc k) d h fits =
    rw (four 1, four 2, four 3, none) (segment_at tr list k d (le_of_suc-le-suc h) (omega arith))
  where
    four : (n : ℕ) → 4 * suc k + n ≡ suc (suc (suc (suc (4 * k + n))))
    four n = omega arith

    none : 4 * suc k ≡ suc (suc (suc (suc (4 * k))))
    none = omega arith

-- what every segment has, each that a lent list holds has
pub held_has : (P : Segment → Type 0) (tr : List Segment) (list : List ℕ) → EverySegment P tr
    → (k : ℕ) → k < length tr → 4 * k + 4 ≤ length list → P (segment_in (written tr list) k)
held_has P tr list x k h fits = subst⁻¹ P (segment_at tr list k (segment_in [] 0) h fits) (every_at P tr (segment_in [] 0) x k h)

-- the first n of a list add up to no more than all
pub added_first : (f : Segment → ℕ) (l : List Segment) (d : Segment) (n : ℕ) → n ≤ length l → sum n (λ k. f (get_or l k d)) ≤ sum_over f l
unfolding sum sum_over
added_first f l d zero h = omega arith
added_first f [] d (suc n) h = absurd (not-suc-le-zero h)
added_first f (s ∷ l) d (suc n) h = omega (arith, sum_front n (λ k. f (get_or (s ∷ l) k d)), added_first f l d n (le_of_suc-le-suc h))

-- the first n that a lent list holds add up to what the first n of the trace do
held_sum : (f : Segment → ℕ) (tr : List Segment) (list : List ℕ) (d : Segment) (n : ℕ) → n ≤ length tr → 4 * n ≤ length list
    → sum n (λ k. f (segment_in (written tr list) k)) ≡ sum n (λ k. f (get_or tr k d))
unfolding sum
held_sum f tr list d zero h fits = refl
held_sum f tr list d (suc n) h fits =
    ap₂ ◌+◌ (held_sum f tr list d n (omega arith) (omega arith)) (ap f (segment_at tr list n d h (omega arith)))

-- and so to no more than all
pub held_added : (f : Segment → ℕ) (tr : List Segment) (list : List ℕ) (n : ℕ) → n ≤ length tr → 4 * n ≤ length list
    → sum n (λ k. f (segment_in (written tr list) k)) ≤ sum_over f tr
held_added f tr list n h fits =
    omega (arith, held_sum f tr list (segment_in [] 0) n h fits, added_first f tr (segment_in [] 0) n h)
