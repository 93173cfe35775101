-- Steps that walks share: what a callee ensures, and two clauses of an `ensures`.
use seplogic.Ra.Ura.{Ura}
use mathlib.Core.List.{List}
use base.Logic.{SProp, ent, sep, via, assoc∗, fst∗, snd∗, ex_e}
use contract.Lifetimes.{Lfts}
use contract.Monad.{fact, fact_i, fact_use}
use denote.Triple.Clauses.{Ended, Clauses, AtExit, ensured, lasts}
use denote.Triple.Entry.{Args, Res}
use denote.Triple.Walked.{says}
use types.Logic.{Logic, sem}
use types.Kit.{Item, prop, Step, step, ◌$◌, suffices}

-- what follows from what a callee ensures, whatever it leaves, its caller is told
pub ensured_tells : {M : Type 1} {𝓤 : Ura M} (𝓛 : Logic 𝓤) (T : Ended) (c : Clauses 𝓤 T)
    (κs : Lfts T.signature.lifetimes) (a : Args T.signature κs) (g : (c κs a).ghost) (r : Res T.signature κs) (φ : Type 0)
    → ((e : AtExit T κs) → ent 𝓤 ((c κs a).ensures g r e) (fact 𝓤 φ)) → ent 𝓤 (ensured 𝓛 T c κs a g r) (fact 𝓤 φ)
ensured_tells {𝓤 = 𝓤} 𝓛 T c κs a g r φ ensures = ex_e 𝓤 _ (λ ws. via 𝓤 _ (snd∗ 𝓤 (sem 𝓛 (lasts T κs a ws)) _) (ensures _))

-- two clauses of an `ensures`: as one fact, for whoever has them
pub both_said : {M : Type 1} (𝓤 : Ura M) (φ ψ : Type 0) → ent 𝓤 (sep 𝓤 (fact 𝓤 φ) (fact 𝓤 ψ)) (fact 𝓤 (φ × ψ))
both_said 𝓤 φ ψ =
    fact_use 𝓤 φ (fst∗ 𝓤 (fact 𝓤 φ) (fact 𝓤 ψ)) (λ x.
    fact_use 𝓤 ψ (snd∗ 𝓤 (fact 𝓤 φ) (fact 𝓤 ψ)) (λ y. fact_i 𝓤 (φ × ψ) (sep 𝓤 (fact 𝓤 φ) (fact 𝓤 ψ)) (x, y)))

-- and shown one after the other, for whoever owes them
pub says_both : {M : Type 1} {𝓤 : Ura M} {𝓛 : Logic 𝓤} {K : Type 0} {Γ : List (Item 𝓤)} → K
    → {φ ψ : Type 0} {P : SProp 𝓤} → φ → ψ → Step K 𝓛 Γ (prop P) Γ (prop (sep 𝓤 P (sep 𝓤 (fact 𝓤 φ) (fact 𝓤 ψ))))
says_both {𝓤 = 𝓤} t {φ} {ψ} {P} x y = step (λ s.
    suffices t (sep 𝓤 (sep 𝓤 P (fact 𝓤 φ)) (fact 𝓤 ψ)) (assoc∗ 𝓤 P (fact 𝓤 φ) (fact 𝓤 ψ)) $ says t y $ says t x $ s)
