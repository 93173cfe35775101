-- The list of a function's values at the numbers below a bound.
use Rattle.std.specs.Prelude.{ℕ, zero, suc, List, [], ◌∷◌}

module _ {A : Type 0} where
  -- f 0, f 1, .., f (n − 1)
  unfoldable pub places : ℕ → (ℕ → A) → List A
  places zero f = []
  places (suc n) f = f zero ∷ places n (λ i. f (suc i))
