-- Each promise of this crate allows one outcome, and asks nothing.
use Rattle.promise.specs.AsksNothing.{AsksNothing}
use Rattle.promise.specs.OneOutcome.{OneOutcome}
use Rattle.promise.proofs.OneOutcomeLaws.{both_are}
use Rattle.numbers.proofs.word_at.Reads as word_at

pub word_at_one : OneOutcome word_at.Post
word_at_one l a x y at_x at_y p q = both_are p q

pub word_at_asks : AsksNothing word_at.Pre
word_at_asks l a given = tt
