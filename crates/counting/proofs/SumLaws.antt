-- Laws of sums over the numbers below a bound.
use Prim.Native.Nat.{ℕ, zero, suc, ◌+◌, ◌*◌, ◌≤◌, ◌<◌}
use mathlib.Core.Logic.{⊎_elim}
use mathlib.Core.Path.{◌≡◌, subst}
use native.Mathlib.Nat.{eq-or-lt_of_le, le_of_suc-le-suc, le_refl, not-suc-le-zero}
use native.Mathlib.Omega.{arith}
use Rattle.counting.specs.Sum.{sum}

-- its first number, and the sum of the others
pub sum_front : (n : ℕ) (f : ℕ → ℕ) → sum (suc n) f ≡ f 0 + sum n (λ i. f (suc i))
unfolding sum
sum_front zero f = omega arith
sum_front (suc n) f = omega (arith, sum_front n f)

-- a sum of n numbers, none above k, is at most n times k
pub sum_le : (n k : ℕ) (f : ℕ → ℕ) → ((i : ℕ) → i < n → f i ≤ k) → sum n f ≤ n * k
unfolding sum
sum_le zero k f h = omega arith
sum_le (suc n) k f h = omega (arith, sum_le n k f (λ i b. h i (omega arith)), h n (omega arith))

-- a sum of larger numbers is larger
pub sum_mono : (n : ℕ) (f g : ℕ → ℕ) → ((i : ℕ) → i < n → f i ≤ g i) → sum n f ≤ sum n g
unfolding sum
sum_mono zero f g h = omega arith
sum_mono (suc n) f g h = omega (arith, sum_mono n f g (λ i b. h i (omega arith)), h n (omega arith))

-- and by k larger where one of them is
pub sum_falls : (n k i : ℕ) (f g : ℕ → ℕ) → ((j : ℕ) → j < n → f j ≤ g j) → i < n → f i + k ≤ g i → sum n f + k ≤ sum n g
unfolding sum
sum_falls zero k i f g h b e = absurd (not-suc-le-zero b)
sum_falls (suc n) k i f g h b e =
    ⊎_elim (λ (q : i ≡ n). omega (arith, sum_mono n f g (λ j c. h j (omega arith)), subst (λ (m : ℕ). f m + k ≤ g m) q e))
    (λ (c : i < n). omega (arith, sum_falls n k i f g (λ j c. h j (omega arith)) c e, h n (omega arith)))
    (eq-or-lt_of_le (le_of_suc-le-suc b))

-- each of the numbers is at most their sum
pub sum_at : (n i : ℕ) (f : ℕ → ℕ) → i < n → f i ≤ sum n f
sum_at n i f b = omega (arith, sum_falls n (f i) i (λ j. 0) f (λ j c. omega arith) b (omega arith))

-- the first k of them add up to no more than all
pub sum_first : (n k : ℕ) (f : ℕ → ℕ) → k ≤ n → sum k f ≤ sum n f
unfolding sum
sum_first zero k f h = let none : k ≡ 0 = omega arith in rw none (le_refl _)
sum_first (suc n) k f h =
    ⊎_elim (λ (q : k ≡ suc n). rw q (le_refl _)) (λ (b : k < suc n). omega (arith, sum_first n k f (le_of_suc-le-suc b))) (eq-or-lt_of_le h)

-- a common factor
pub sum_times : (n k : ℕ) (f : ℕ → ℕ) → sum n (λ i. k * f i) ≡ k * sum n f
unfolding sum
sum_times zero k f = omega arith
sum_times (suc n) k f = omega (arith, sum_times n k f)

-- numbers that agree below n have the same sum
pub sum_same : (n : ℕ) (f g : ℕ → ℕ) → ((i : ℕ) → i < n → f i ≡ g i) → sum n f ≡ sum n g
unfolding sum
sum_same zero f g h = omega arith
sum_same (suc n) f g h = omega (arith, sum_same n f g (λ i b. h i (omega arith)), h n (omega arith))
