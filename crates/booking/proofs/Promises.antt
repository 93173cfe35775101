-- Each promise of this crate allows one outcome, and asks nothing; what is said on paper tells the verdict.
use Rattle.promise.specs.AsksNothing.{AsksNothing}
use Rattle.promise.specs.OneOutcome.{OneOutcome}
use Rattle.promise.proofs.OneOutcomeLaws.{both_are}
use Rattle.refusal.proofs.OnPaperLaws.{answer_told}
use Rattle.booking.proofs.admit.Reads as admit
use Rattle.booking.proofs.left_on.Reads as left-on

pub admit_one : OneOutcome admit.Post
admit_one l a x y at_x at_y p q = answer_told x y (both_are p q)

pub admit_asks : AsksNothing admit.Pre
admit_asks l a given = tt

pub left_on_one : OneOutcome left-on.Post
left_on_one l a x y at_x at_y p q = both_are p q

pub left_on_asks : AsksNothing left-on.Pre
left_on_asks l a given = tt
