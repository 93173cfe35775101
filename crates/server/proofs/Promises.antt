-- Each promise of this crate allows one outcome, and asks nothing.
use Rattle.promise.specs.AsksNothing.{AsksNothing}
use Rattle.promise.specs.OneOutcome.{OneOutcome}
use Rattle.promise.proofs.OneOutcomeLaws.{both_are}
use Rattle.server.proofs.fresh.Reads as fresh
use Rattle.server.proofs.vacant.Reads as vacant

pub fresh_one : OneOutcome fresh.Post
fresh_one l a x y at_x at_y p q = both_are p q

pub fresh_asks : AsksNothing fresh.Pre
fresh_asks l a given = tt

pub vacant_one : OneOutcome vacant.Post
vacant_one l a x y at_x at_y p q = both_are p q

pub vacant_asks : AsksNothing vacant.Pre
vacant_asks l a given = tt
