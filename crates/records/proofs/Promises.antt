-- Each promise of this crate allows one outcome, and asks nothing.
use Rattle.promise.specs.AsksNothing.{AsksNothing}
use Rattle.promise.specs.OneOutcome.{OneOutcome}
use Rattle.promise.proofs.OneOutcomeLaws.{both_are}
use Rattle.records.proofs.of_run.Reads as of-run

pub of_run_one : OneOutcome of-run.Post
of_run_one l a x y at_x at_y p q = both_are p q

pub of_run_asks : AsksNothing of-run.Pre
of_run_asks l a given = tt
