-- `bench_live_ticks::by_value::ticks` meets its promise: at every turn the tally and the dispatcher are what the ticks so far have come to.
use mathlib.Core.Path.{◌≡◌}
use Rattle.dispatcher.specs.Within.{Within}
use Rattle.bench_live_ticks.specs.Working.Ticks.{tallied}
use Rattle.bench_live_ticks.proofs.TicksLaws.{having}
use Rattle.bench_live_ticks.proofs.by_value.ticks.Given as goal

abbrev pub invariant-loop : goal.invariant-loop
invariant-loop l = record { so_far : having l.tally l.d ≡ tallied l.fn.d l.counter; within : Within l.d }
