-- A function's locals in a walk: all of them at once, or one as an operand.
use Prim.Native.Nat.{ℕ, zero, suc}
use mathlib.Core.List.{List, [], ◌∷◌, ◌++◌}
use seplogic.Ra.Ura.{Ura}
use mathlib.Core.Path.{◌≡◌}
use mir.Syntax.{Ty, Local, local, ty_unit, place, copy}
use mir.Val.{Val}
use base.Fml.{fat, froom, fdies}
use base.Fraction.{full_share}
use prog.Wp.{Env, spot_of}
use types.Logic.{Logic}
use types.Kit.{Item, ‵, nth, Goal, allocs, frees, Seq, Step, step, ◌$◌}
use types.Run.{Opd, look, stop, from, load, alloc1, alloc0, free1, free0}

-- a block for each local
abbrev pub Blocks : List Local → Type 0
Blocks [] = Unit {0}
Blocks (l ∷ ls) = ℕ × Blocks ls

-- the locals in their blocks
abbrev pub placed : (ls : List Local) → Blocks ls → List (Ty × ℕ)
placed [] bs = []
placed (local τ h ∷ ls) bs = (τ, bs.0) ∷ placed ls bs.1

-- room for each, with what frees it
abbrev pub rooms : {M : Type 1} {𝓤 : Ura M} → List (Ty × ℕ) → List (Item 𝓤)
rooms [] = []
rooms ((τ, b) ∷ E) = ‵ (froom τ b 0) ∷ ‵ (fdies τ b) ∷ rooms E

-- the same in front of a context, the last local first
abbrev pub stacked : {M : Type 1} {𝓤 : Ura M} → List (Ty × ℕ) → List (Item 𝓤) → List (Item 𝓤)
stacked [] Γ = Γ
stacked ((τ, b) ∷ E) Γ = stacked E (‵ (froom τ b 0) ∷ ‵ (fdies τ b) ∷ Γ)

-- local i, as room and with a value, and what frees each
abbrev pub local_at : List (Ty × ℕ) → ℕ → Ty × ℕ
local_at [] i = (ty_unit, 0)
local_at (e ∷ E) zero = e
local_at (e ∷ E) (suc i) = local_at E i

abbrev pub room : {M : Type 1} {𝓤 : Ura M} → List (Ty × ℕ) → ℕ → Item 𝓤
room E i = ‵ (froom (local_at E i).0 (local_at E i).1 0)

abbrev pub cell : {M : Type 1} {𝓤 : Ura M} → List (Ty × ℕ) → ℕ → Val → Item 𝓤
cell E i v = ‵ (fat full_share (local_at E i).0 (local_at E i).1 0 v)

abbrev pub frees_each : {M : Type 1} {𝓤 : Ura M} → List (Ty × ℕ) → List (Item 𝓤)
frees_each [] = []
frees_each ((τ, b) ∷ E) = ‵ (fdies τ b) ∷ frees_each E

module _ {M : Type 1} {𝓤 : Ura M} {𝓛 : Logic 𝓤} {K : Type 0} where
  -- all locals are allocated
  open 𝓛 use {H}

  pub alloc_all : K → {Γ : List (Item 𝓤)} (ls : List Local) {Kt : Env 𝓤 H → Goal 𝓤 H}
      → ((bs : Blocks ls) → Seq K 𝓛 (stacked (placed ls bs) Γ) (Kt (placed ls bs))) → Seq K 𝓛 Γ (allocs ls Kt)
  alloc_all t {Γ = Γ} [] {Kt = Kt} k = alloc0 t $ k tt
  alloc_all t {Γ = Γ} (local τ h ∷ ls) {Kt = Kt} k =
      alloc1 t (λ b. alloc_all t {Γ = ‵ (froom τ b 0) ∷ ‵ (fdies τ b) ∷ Γ} ls {Kt = λ E. Kt ((τ, b) ∷ E)} (λ bs. k (b, bs)))

  module _ {Γ : List (Item 𝓤)} where
    -- a local as an operand, where entry n of the context has its value
    pub held : K → {E : Env 𝓤 H} {i : ℕ} (n : ℕ) {v : Val}
        → nth 𝓛 n Γ ≡ ‵ (fat full_share (spot_of 𝓤 H E i).0 (spot_of 𝓤 H E i).1 zero v) → Opd K 𝓛 Γ E (copy (place i [])) v
    held t n e = load t (from t (stop t)) (look t n e)

    -- and all are freed
    pub free_all : K → (E : Env 𝓤 H) {g : Goal 𝓤 H} → Step K 𝓛 Γ g (rooms E ++ Γ) (frees E g)
    free_all t [] = free0 t
    free_all t ((τ, b) ∷ E) = step (λ s. free1 t $ free_all t E $ s)
