-- `dispatcher::picking::pick` meets its promise: after i turns `best` is the earliest of the first i servers, or none of them works.
use Rattle.dispatcher.proofs.SofarLaws.{Sofar}
use Rattle.dispatcher.proofs.picking.pick.Given as goal

abbrev pub invariant-loop-i : goal.invariant-loop-i
invariant-loop-i l = Sofar l.fn.d l.i l.best
