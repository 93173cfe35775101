-- `bench_live_ticks::work::take_arrivals` meets its promise: every arrival leaves the dispatcher within the ranges.
use Rattle.dispatcher.specs.Within.{Within}
use Rattle.bench_live_ticks.proofs.work.take_arrivals.Given as goal

abbrev pub invariant-loop-k : goal.invariant-loop-k
invariant-loop-k l = Within l.d
