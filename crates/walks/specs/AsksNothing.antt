-- What a function over a struct that holds a reference, or over a reference to a struct, asks of its caller, whatever the check reads of its
-- premise: the law is of its clauses, in every model.
use seplogic.Ra.Ura.{Ura}
use base.Logic.{SProp, ent}
use contract.Lifetimes.{Lfts}
use contract.Monad.{Fun}
use denote.Triple.Clauses.{Ended}
use denote.Triple.Entry.{Args}
use types.Logic.{Logic}
use prog.Memory.{Memory}
use prog.Routine.{Routine}
use Rattle.walks.specs.OneOutcome.{InEveryModel}

-- what the clauses require follows from anything, wherever what is given of the arguments holds
abbrev pub AsksOnlyWalked : (T : Ended) → ((κs : Lfts T.signature.lifetimes) → Args T.signature κs → Type 0) → InEveryModel T → Type 2
AsksOnlyWalked T given clauses =
    (M : Type 1) (𝓤 : Ura M) (𝓛 : Logic 𝓤) (mem : Memory → SProp 𝓤) (run : Routine → Fun 𝓤)
    (κs : Lfts T.signature.lifetimes) (a : Args T.signature κs) → given κs a
    → (g : (clauses M 𝓤 𝓛 mem run κs a).ghost) × ((P : SProp 𝓤) → ent 𝓤 P ((clauses M 𝓤 𝓛 mem run κs a).requires g))

abbrev pub AsksNothingWalked : (T : Ended) → InEveryModel T → Type 2
AsksNothingWalked T = AsksOnlyWalked T (λ κs a. Unit {0})
