-- "The caller checks nothing beforehand." (document 00, demand 1)

-- Of a function's premise, which is its `requires` as the check reads it, a claim of the lifetimes and the arguments: it holds wherever
-- what is given of the arguments does.
abbrev pub AsksOnly {ℓ κ} : {L : Type ℓ} {A : L → Type κ} → ((l : L) → A l → Type 0) → ((l : L) → A l → Type 0) → Type (ℓ ⊔ κ)
AsksOnly {L = L} {A = A} given premise = (l : L) (a : A l) → given l a → premise l a

-- it holds whatever the arguments are
abbrev pub AsksNothing {ℓ κ} : {L : Type ℓ} {A : L → Type κ} → ((l : L) → A l → Type 0) → Type (ℓ ⊔ κ)
AsksNothing = AsksOnly (λ l a. Unit {0})
