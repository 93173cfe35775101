-- "Show that any two outcomes allowed by the statement are equal." (document 01, "What every promise says")
use Rattle.std.specs.Prelude.{◌≡◌}

-- Of a function's promise, which is its `ensures` as the check reads it, a claim of the lifetimes, the arguments, the result and what is
-- lent at exit: whatever the arguments are, two results that it allows are equal. (For functions that are lent nothing to alter;
-- `OneOutcomeLent` is for the others.)
abbrev pub OneOutcome {ℓ κ λ' μ} : {L : Type ℓ} {A : L → Type κ} {R : L → Type λ'} {E : L → Type μ}
    → ((l : L) → A l → R l → E l → Type 0) → Type (ℓ ⊔ κ ⊔ λ' ⊔ μ)
OneOutcome {L = L} {A = A} {R = R} {E = E} promise =
    (l : L) (a : A l) (x y : R l) (at_x at_y : E l) → promise l a x at_x → promise l a y at_y → x ≡ y

-- Of a function that is lent lists or a dispatcher to alter, where `left` reads all of them at exit: these agree too.
abbrev pub OneOutcomeLent {ℓ κ λ' μ} : {L : Type ℓ} {A : L → Type κ} {R : L → Type λ'} {E : L → Type μ} {X : Type 0}
    → ((l : L) → A l → R l → E l → Type 0) → ((l : L) → E l → X) → Type (ℓ ⊔ κ ⊔ λ' ⊔ μ)
OneOutcomeLent {L = L} {A = A} {R = R} {E = E} promise left =
    (l : L) (a : A l) (x y : R l) (at_x at_y : E l) → promise l a x at_x → promise l a y at_y
    → (x ≡ y) × (left l at_x ≡ left l at_y)
