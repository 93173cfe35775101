-- `run::tree::rival` meets its promise: it climbs a tree that is not there, in which server i has the key of the server beside it.
use Rattle.run.proofs.RivalLaws.{Would}
use Rattle.run.proofs.tree.rival.Given as goal

abbrev pub invariant-loop-at : goal.invariant-loop-at
invariant-loop-at l = Would l.tree l.i l.initial.least l.at l.least

abbrev pub decreases-loop-at : goal.decreases-loop-at
decreases-loop-at l = l.at
