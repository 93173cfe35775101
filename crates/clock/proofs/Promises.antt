-- Each promise of this crate allows one outcome, and asks nothing.
use Rattle.promise.specs.AsksNothing.{AsksNothing}
use Rattle.clock.proofs.later.Reads as later
use Rattle.clock.proofs.until.Reads as until
use Rattle.promise.specs.OneOutcome.{OneOutcome}
use Rattle.promise.proofs.OneOutcomeLaws.{both_are}

pub later_one : OneOutcome later.Post
later_one l a x y at_x at_y p q = both_are p q

pub later_asks : AsksNothing later.Pre
later_asks l a given = tt

pub until_one : OneOutcome until.Post
until_one l a x y at_x at_y p q = both_are p q

pub until_asks : AsksNothing until.Pre
until_asks l a given = tt
