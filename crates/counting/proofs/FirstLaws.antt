-- Laws of the first number below a bound that passes a test.
use Prim.Native.Nat.{ℕ, zero, suc, ◌≤◌, ◌<◌, zero-le, suc-le-suc}
use mathlib.Core.Bool.{Bool, true, false, cond}
use mathlib.Core.Path.{◌≡◌, refl, ap, ap₂, subst}
use native.Mathlib.Nat.{le_of_suc-le-suc, le_trans, not-suc-le-zero}
use Rattle.counting.specs.First.{first}

-- it is i where i passes and none before it does
pub first_is : (n : ℕ) (p : ℕ → Bool) (i : ℕ) → i < n → p i ≡ true → ((j : ℕ) → j < i → p j ≡ false) → first n p ≡ i
unfolding first
first_is zero p i h t before = absurd (not-suc-le-zero h)
first_is (suc n) p zero h t before = rw t
first_is (suc n) p (suc i) h t before =
    rw (before zero (suc-le-suc zero-le))
    (ap suc (first_is n (λ j. p (suc j)) i (le_of_suc-le-suc h) t (λ j b. before (suc j) (suc-le-suc b))))

-- it is n where none passes
pub first_none : (n : ℕ) (p : ℕ → Bool) → ((j : ℕ) → j < n → p j ≡ false) → first n p ≡ n
unfolding first
first_none zero p before = refl
first_none (suc n) p before =
    rw (before zero (suc-le-suc zero-le)) (ap suc (first_none n (λ j. p (suc j)) (λ j b. before (suc j) (suc-le-suc b))))

-- it is n at most
pub first_le : (n : ℕ) (p : ℕ → Bool) → first n p ≤ n
unfolding first
first_le zero p = zero-le
first_le (suc n) p = go (p zero) refl (first_le n (λ i. p (suc i)))
  where
    rest : ℕ
    rest = first n (λ i. p (suc i))

    go : (b : Bool) → p zero ≡ b → rest ≤ n → cond (p zero) zero (suc rest) ≤ suc n
    go true e h = rw e zero-le
    go false e h = rw e (suc-le-suc h)

-- where it is below n, it passes
pub first_passes : (n : ℕ) (p : ℕ → Bool) → first n p < n → p (first n p) ≡ true
unfolding first
first_passes zero p h = absurd (not-suc-le-zero h)
first_passes (suc n) p h = go (p zero) refl (first_passes n (λ i. p (suc i)))
  where
    rest : ℕ
    rest = first n (λ i. p (suc i))

    go : (b : Bool) → p zero ≡ b → (rest < n → p (suc rest) ≡ true) → p (cond (p zero) zero (suc rest)) ≡ true
    go true e later = rw (e, e)
    go false e later = rw e (later (le_of_suc-le-suc (subst (λ (b : Bool). cond b zero (suc rest) < suc n) e h)))

-- none before it passes
pub first_before : (n : ℕ) (p : ℕ → Bool) (j : ℕ) → j < first n p → p j ≡ false
unfolding first
first_before zero p j h = absurd (not-suc-le-zero h)
first_before (suc n) p zero h = go (p zero) refl
  where
    go : (b : Bool) → p zero ≡ b → p zero ≡ false
    go true e = absurd (not-suc-le-zero (subst (λ (b : Bool). zero < cond b zero (suc (first n (λ i. p (suc i))))) e h))
    go false e = e
first_before (suc n) p (suc j) h = go (p zero) refl (first_before n (λ i. p (suc i)) j)
  where
    rest : ℕ
    rest = first n (λ i. p (suc i))

    go : (b : Bool) → p zero ≡ b → (j < rest → p (suc j) ≡ false) → p (suc j) ≡ false
    go true e later = absurd (not-suc-le-zero (subst (λ (b : Bool). suc j < cond b zero (suc rest)) e h))
    go false e later = later (le_of_suc-le-suc (subst (λ (b : Bool). suc j < cond b zero (suc rest)) e h))

-- one that is below n is the first below any greater bound
pub first_more : (n m : ℕ) (p : ℕ → Bool) → first n p < n → n ≤ m → first m p ≡ first n p
first_more n m p h b = first_is m p (first n p) (le_trans h b) (first_passes n p h) (λ j q. first_before n p j q)

-- tests that agree below n have the same first number there
pub first_same : (n : ℕ) (p q : ℕ → Bool) → ((i : ℕ) → i < n → p i ≡ q i) → first n p ≡ first n q
unfolding first
first_same zero p q h = refl
first_same (suc n) p q h =
    ap₂ (λ (b : Bool) (k : ℕ). cond b zero (suc k)) (h zero (suc-le-suc zero-le))
    (first_same n (λ i. p (suc i)) (λ i. q (suc i)) (λ i b. h (suc i) (suc-le-suc b)))
