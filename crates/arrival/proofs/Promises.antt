-- Each promise of this crate allows one outcome, and asks nothing.
use Rattle.promise.specs.AsksNothing.{AsksNothing}
use Rattle.promise.specs.OneOutcome.{OneOutcome}
use Rattle.promise.proofs.OneOutcomeLaws.{both_are}
use Rattle.arrival.proofs.is_faulty.Reads as is-faulty

pub is_faulty_one : OneOutcome is-faulty.Post
is_faulty_one l a x y at_x at_y p q = both_are p q

pub is_faulty_asks : AsksNothing is-faulty.Pre
is_faulty_asks l a given = tt
