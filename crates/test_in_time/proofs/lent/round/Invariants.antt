-- `test_in_time::lent::round` meets its promise: at every turn the ticks so far have been counted.
use Rattle.test_in_time.specs.Working.Counted.{Counts}
use Rattle.test_in_time.proofs.CountedLaws.{having}
use Rattle.test_in_time.proofs.lent.round.Given as goal

abbrev pub invariant-loop : goal.invariant-loop
invariant-loop l = Counts l.w l.fn.start l.counter (having l.got l.d)
