-- Laws of how many numbers below a bound pass a test.
use Prim.Native.Nat.{ℕ, zero, suc, ◌+◌, ◌≤◌, ◌<◌}
use mathlib.Core.Bool.{Bool, true, false, cond}
use mathlib.Core.Path.{◌≡◌, refl, ap₂}
use native.Mathlib.Nat.{add-suc, add-zero}
use native.Mathlib.Omega.{arith}
use Rattle.counting.specs.Count.{count}

pub count_empty : (p : ℕ → Bool) → count 0 p ≡ 0
unfolding count
count_empty p = refl

pub count_hit : (n : ℕ) (p : ℕ → Bool) → p n ≡ true → count (suc n) p ≡ count n p + 1
unfolding count
count_hit n p e = rw e

pub count_miss : (n : ℕ) (p : ℕ → Bool) → p n ≡ false → count (suc n) p ≡ count n p
unfolding count
count_miss n p e = rw e (omega arith)

-- one number more adds at most one
pub count_step : (n : ℕ) (p : ℕ → Bool) → (count n p ≤ count (suc n) p) × (count (suc n) p ≤ count n p + 1)
count_step n p = go (p n) refl
  where
    go : (b : Bool) → p n ≡ b → (count n p ≤ count (suc n) p) × (count (suc n) p ≤ count n p + 1)
    go true e = (omega (arith, count_hit n p e), omega (arith, count_hit n p e))
    go false e = (omega (arith, count_miss n p e), omega (arith, count_miss n p e))

-- k further numbers that all pass, and k that all fail
pub count_all : (n k : ℕ) (p : ℕ → Bool) → ((q : ℕ) → q < k → p (n + q) ≡ true) → count (n + k) p ≡ count n p + k
count_all n zero p h = rw add-zero (omega arith)
count_all n (suc k) p h =
    rw (add-suc n k)
    (omega (arith, count_all n k p (λ q b. h q (omega arith)), count_hit (n + k) p (h k (omega arith))))

pub count_none : (n k : ℕ) (p : ℕ → Bool) → ((q : ℕ) → q < k → p (n + q) ≡ false) → count (n + k) p ≡ count n p
count_none n zero p h = rw add-zero
count_none n (suc k) p h =
    rw (add-suc n k)
    (omega (arith, count_none n k p (λ q b. h q (omega arith)), count_miss (n + k) p (h k (omega arith))))

-- more numbers are no fewer that pass
pub count_more : (n k : ℕ) (p : ℕ → Bool) → count n p ≤ count (n + k) p
count_more n zero p = rw add-zero (omega arith)
count_more n (suc k) p = rw (add-suc n k) (omega (arith, count_more n k p, (count_step (n + k) p).0))

-- n numbers at most
pub count_le : (n : ℕ) (p : ℕ → Bool) → count n p ≤ n
count_le zero p = omega (arith, count_empty p)
count_le (suc n) p = omega (arith, count_le n p, (count_step n p).1)

-- tests that agree below n pass as often there
pub count_same : (n : ℕ) (p q : ℕ → Bool) → ((i : ℕ) → i < n → p i ≡ q i) → count n p ≡ count n q
unfolding count
count_same zero p q h = refl
count_same (suc n) p q h =
    ap₂ (λ (k : ℕ) (b : Bool). k + cond b 1 0) (count_same n p q (λ i b. h i (omega arith))) (h n (omega arith))

-- where whatever passes one test passes another, no fewer pass that
pub count_fewer : (n : ℕ) (p q : ℕ → Bool) → ((i : ℕ) → p i ≡ true → q i ≡ true) → count n p ≤ count n q
count_fewer zero p q h = omega (arith, count_empty p)
count_fewer (suc n) p q h = go (p n) refl (count_fewer n p q h)
  where
    go : (b : Bool) → p n ≡ b → count n p ≤ count n q → count (suc n) p ≤ count (suc n) q
    go true e few = omega (arith, few, count_hit n p e, count_hit n q (h n e))
    go false e few = omega (arith, few, count_miss n p e, (count_step n q).0)
