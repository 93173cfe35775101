-- Laws of what every number below a bound passes.
use Prim.Native.Nat.{ℕ, zero, suc, ◌+◌, ◌<◌}
use mathlib.Core.Bool.{Bool, true, false}
use mathlib.Core.Logic.{⊎_elim}
use mathlib.Core.Path.{◌≡◌, refl, subst⁻¹}
use native.Mathlib.Nat.{eq-or-lt_of_le, le_of_suc-le-suc, not-suc-le-zero}
use native.Mathlib.Numerals.{add-one}
use native.Mathlib.Omega.{arith}
use Rattle.counting.proofs.TestLaws.{and_left, and_right, and_both, not_both}
use Rattle.counting.specs.Below.{every}

-- what holds below n, and at n, holds below n + 1
pub below_suc : (P : ℕ → Type 0) (n : ℕ) → ((i : ℕ) → i < n → P i) → P n → (i : ℕ) → i < suc n → P i
below_suc P n below at i h =
    ⊎_elim (λ (q : i ≡ n). subst⁻¹ P q at) (below i) (eq-or-lt_of_le (le_of_suc-le-suc h))

-- what every number passes, each passes
pub every_at : (n : ℕ) (p : ℕ → Bool) → every n p ≡ true → (i : ℕ) → i < n → p i ≡ true
unfolding every
every_at zero p e i h = absurd (not-suc-le-zero h)
every_at (suc n) p e i h =
    below_suc (λ (j : ℕ). p j ≡ true) n
    (every_at n p (and_left (every n p) (p n) e))
    (and_right (every n p) (p n) e)
    i
    h

-- and what each passes, every number does
pub every_from : (n : ℕ) (p : ℕ → Bool) → ((i : ℕ) → i < n → p i ≡ true) → every n p ≡ true
unfolding every
every_from zero p h = refl
every_from (suc n) p h = and_both (every_from n p (λ i below. h i (omega arith))) (h n (omega arith))

-- the numbers below k, and k too
pub every_next : (k : ℕ) (p : ℕ → Bool) → every k p ≡ true → p k ≡ true → every (k + 1) p ≡ true
unfolding every
every_next k p all one = rw (add-one k) (and_both all one)

-- one that fails is enough
pub every_fails : (n : ℕ) (p : ℕ → Bool) (i : ℕ) → i < n → p i ≡ false → every n p ≡ false
every_fails n p i h e = go (every n p) refl
  where
    go : (b : Bool) → every n p ≡ b → every n p ≡ false
    go true q = not_both (every_at n p q i h) e
    go false q = q
