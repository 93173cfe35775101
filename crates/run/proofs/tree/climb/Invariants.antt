-- `run::tree::climb` meets its promise: every turn is a turn of the climb, and after so many it has reached the root.
use Prim.Native.Nat.{◌-◌}
use Rattle.books.proofs.Tree.Climb.{Climb, Below}
use Rattle.run.proofs.tree.climb.Given as goal

abbrev pub invariant-loop : goal.invariant-loop
invariant-loop l = record { climb : Climb l.initial.tree l.tree l.at l.least; up : Below l.at (l.turns - l.counter) }
