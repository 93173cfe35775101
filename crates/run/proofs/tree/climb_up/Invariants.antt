-- `run::tree::climb_up` meets its promise: every turn is a turn of the climb, which ends at the root.
use Rattle.books.proofs.Tree.Climb.{Climb}
use Rattle.run.proofs.tree.climb_up.Given as goal

abbrev pub invariant-loop-at : goal.invariant-loop-at
invariant-loop-at l = Climb l.initial.tree l.tree l.at l.least

abbrev pub decreases-loop-at : goal.decreases-loop-at
decreases-loop-at l = l.at
