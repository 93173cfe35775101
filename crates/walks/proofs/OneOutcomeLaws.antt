-- Where the clauses of a walked function say what its result is, they allow one.
use mathlib.Core.Path.{◌≡◌}
use contract.Lifetimes.{Lfts}
use denote.Triple.Clauses.{Ended}
use denote.Triple.Entry.{Args, Res}
use Rattle.promise.proofs.OneOutcomeLaws.{both_are}
use Rattle.walks.specs.OneOutcome.{InEveryModel, Gives, OneOutcomeWalked}

-- where a function's clauses say what its result is, they allow one
pub says_result : (T : Ended) (clauses : InEveryModel T) (is : (κs : Lfts T.signature.lifetimes) → Args T.signature κs → Res T.signature κs)
    → Gives T clauses (λ κs a r e. r ≡ is κs a) → OneOutcomeWalked T clauses
says_result T clauses is gives = ((λ κs a r e. r ≡ is κs a), (gives, (λ l a x y at_x at_y p q. both_are p q)))
