-- `test_work_files::play` ends: each case leaves fewer numbers.
use lib.ListN.{length}
use Rattle.test_work_files.proofs.play.Given as goal

abbrev pub invariant-loop-left : goal.invariant-loop-left
invariant-loop-left g l = Unit {0}

abbrev pub decreases-loop-left : goal.decreases-loop-left
decreases-loop-left g l = length l.left
