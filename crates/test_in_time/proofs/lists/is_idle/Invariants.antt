-- `test_in_time::lists::is_idle` meets its promise: after k turns none of the first k jobs waits, and the first that does is enough.
use lib.ListN.{get_or}
use mathlib.Core.Bool.{true}
use mathlib.Core.Path.{◌≡◌}
use Rattle.counting.specs.Below.{every}
use Rattle.workfile.specs.Work.{work}
use Rattle.test_in_time.specs.Working.Lists.{is_done}
use Rattle.test_in_time.proofs.lists.is_idle.Given as goal

abbrev pub invariant-loop-k : goal.invariant-loop-k
invariant-loop-k l = every l.k (λ j. is_done l.w ((work l.file).arrival j) (get_or l.finishes j 0)) ≡ true
