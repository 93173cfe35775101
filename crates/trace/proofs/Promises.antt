-- Each promise of this crate allows one outcome, and asks nothing: the lent list at exit is given whole.
use mathlib.Core.Path.{refl}
use Rattle.promise.specs.AsksNothing.{AsksNothing}
use Rattle.promise.specs.OneOutcome.{OneOutcome, OneOutcomeLent}
use Rattle.promise.proofs.OneOutcomeLaws.{both_are}
use Rattle.trace.proofs.segment_at.Reads as segment_at
use Rattle.trace.proofs.write.Reads as write

pub write_one : OneOutcomeLent write.Post (λ l e. e.0.now)
write_one l a x y at_x at_y p q = (refl, both_are p q)

pub write_asks : AsksNothing write.Pre
write_asks l a given = tt

pub segment_at_one : OneOutcome segment_at.Post
segment_at_one l a x y at_x at_y p q = both_are p q

pub segment_at_asks : AsksNothing segment_at.Pre
segment_at_asks l a given = tt
