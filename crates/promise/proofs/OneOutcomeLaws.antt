-- What a promise of one outcome rests on.
use mathlib.Core.Path.{◌≡◌, sym, ◌∙◌}

-- what is equal to one thing is equal
pub both_are {ℓ} : {A : Type ℓ} {x r s : A} → r ≡ x → s ≡ x → r ≡ s
both_are p q = p ∙ sym q
