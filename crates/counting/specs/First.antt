-- The first number below a bound that passes a test.
use Rattle.std.specs.Prelude.{ℕ, zero, suc, Bool, cond}

-- the first number below n that passes, and n where none does
unfoldable pub first : ℕ → (ℕ → Bool) → ℕ
first zero p = zero
first (suc n) p = cond (p zero) zero (suc (first n (λ i. p (suc i))))
