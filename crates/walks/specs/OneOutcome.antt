-- One outcome of a function over a struct that holds a reference, or over a reference to a struct, whatever the check reads of its promise:
-- the law is of its clauses, which it has in every model of the logic. What they ensure gives a claim, and the claim allows one outcome.
use seplogic.Ra.Ura.{Ura}
use base.Logic.{SProp, ent}
use contract.Lifetimes.{Lfts}
use contract.Monad.{Fun, fact}
use denote.Triple.Clauses.{Ended, Clauses, AtExit}
use denote.Triple.Entry.{Args, Res}
use types.Logic.{Logic}
use prog.Memory.{Memory}
use prog.Routine.{Routine}
use Rattle.promise.specs.OneOutcome.{OneOutcome, OneOutcomeLent}

-- a function's clauses, in every model
abbrev pub InEveryModel : Ended → Type 2
InEveryModel T =
    (M : Type 1) (𝓤 : Ura M) (𝓛 : Logic 𝓤) (mem : Memory → SProp 𝓤) (run : Routine → Fun 𝓤) → Clauses 𝓤 T

-- a claim of the lifetimes, the arguments, the result and what is lent at exit
abbrev pub Claim : Ended → Type 1
Claim T = (κs : Lfts T.signature.lifetimes) → Args T.signature κs → Res T.signature κs → AtExit T κs → Type 0

-- what the clauses ensure gives the claim
abbrev pub Gives : (T : Ended) → InEveryModel T → Claim T → Type 2
Gives T clauses claim =
    (M : Type 1) (𝓤 : Ura M) (𝓛 : Logic 𝓤) (mem : Memory → SProp 𝓤) (run : Routine → Fun 𝓤)
    (κs : Lfts T.signature.lifetimes) (a : Args T.signature κs) (g : (clauses M 𝓤 𝓛 mem run κs a).ghost)
    (r : Res T.signature κs) (e : AtExit T κs)
    → ent 𝓤 ((clauses M 𝓤 𝓛 mem run κs a).ensures g r e) (fact 𝓤 (claim κs a r e))

abbrev pub OneOutcomeWalked : (T : Ended) → InEveryModel T → Type 2
OneOutcomeWalked T clauses = (claim : Claim T) × (Gives T clauses claim × OneOutcome claim)

-- of a function that is lent things to alter, where `left` reads all of them at exit
abbrev pub OneOutcomeLentWalked : {X : Type 0} (T : Ended) → InEveryModel T
    → ((κs : Lfts T.signature.lifetimes) → AtExit T κs → X) → Type 2
OneOutcomeLentWalked T clauses left = (claim : Claim T) × (Gives T clauses claim × OneOutcomeLent claim left)
