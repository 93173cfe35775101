-- `test_in_time::lists::got` meets its promise: after k turns the ticks of the first k segments are added up, which are no more than all.
use mathlib.Core.Path.{◌≡◌}
use Rattle.counting.specs.Sum.{sum}
use Rattle.trace.specs.Written.{segment_in}
use Rattle.test_in_time.specs.Working.Lists.{got_of}
use Rattle.test_in_time.proofs.lists.got.Given as goal

abbrev pub invariant-loop-k : goal.invariant-loop-k
invariant-loop-k l = l.sum ≡ sum l.k (λ j. got_of l.w (segment_in l.list j))
