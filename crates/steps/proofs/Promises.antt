-- Each promise of this crate allows one outcome, and asks nothing.
use Rattle.promise.specs.AsksNothing.{AsksNothing}
use Rattle.promise.specs.OneOutcome.{OneOutcome}
use Rattle.promise.proofs.OneOutcomeLaws.{both_are}
use Rattle.steps.proofs.is_passed_over.Reads as is_passed_over
use Rattle.steps.proofs.serve.Reads as serve
use Rattle.steps.proofs.take.Reads as take

pub take_one : OneOutcome take.Post
take_one l a x y at_x at_y p q = both_are p q

pub take_asks : AsksNothing take.Pre
take_asks l a given = tt

pub is_passed_over_one : OneOutcome is_passed_over.Post
is_passed_over_one l a x y at_x at_y p q = both_are p q

pub is_passed_over_asks : AsksNothing is_passed_over.Pre
is_passed_over_asks l a given = tt

pub serve_one : OneOutcome serve.Post
serve_one l a x y at_x at_y p q = both_are p q

pub serve_asks : AsksNothing serve.Pre
serve_asks l a given = tt
