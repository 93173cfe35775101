-- The promise of this crate allows one outcome, and asks nothing: what is said on paper tells the answer, and both lent lists are given whole.
use Prim.Native.Nat.{ℕ}
use mathlib.Core.List.{List}
use Rattle.promise.specs.AsksNothing.{AsksNothing}
use Rattle.promise.specs.OneOutcome.{OneOutcomeLent}
use Rattle.promise.proofs.OneOutcomeLaws.{both_are}
use Rattle.run.proofs.OutcomeOnPaperLaws.{ran_told}
use Rattle.run.proofs.run.Reads as run

pub run_one : OneOutcomeLent {X = List ℕ × List ℕ} run.Post (λ l e. (e.1.0.now, e.1.1.0.now))
run_one l a x y at_x at_y p q = ran_told _ _ _ _ _ _ (both_are p q)

pub run_asks : AsksNothing run.Pre
run_asks l a given = tt
