-- Each promise of this crate allows one outcome, and asks nothing.
use Rattle.promise.specs.AsksNothing.{AsksNothing}
use Rattle.promise.specs.OneOutcome.{OneOutcome}
use Rattle.promise.proofs.OneOutcomeLaws.{both_are}
use Rattle.refusal.proofs.number.Reads as number
use Rattle.refusal.proofs.place.Reads as place

pub number_one : OneOutcome number.Post
number_one l a x y at_x at_y p q = both_are p q

pub number_asks : AsksNothing number.Pre
number_asks l a given = tt

pub place_one : OneOutcome place.Post
place_one l a x y at_x at_y p q = both_are p q

pub place_asks : AsksNothing place.Pre
place_asks l a given = tt
