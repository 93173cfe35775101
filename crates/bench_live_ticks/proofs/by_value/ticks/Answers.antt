-- `bench_live_ticks::by_value::ticks` meets its promise: at every turn the tally and the dispatcher are what the ticks so far have come to.
use mathlib.Core.Path.{ap, ◌∙◌}
use native.Mathlib.Omega.{arith}
use Rattle.bench_live_ticks.specs.declared.tally.Tally.{Tally}
use Rattle.bench_live_ticks.proofs.TicksLaws.{having, tallied_none, tallied_next, tallied_fits}
use Rattle.bench_live_ticks.proofs.by_value.ticks.Goals as goal

pub loop-init : goal.loop-init
loop-init c = record { so_far = grind (arith, tallied_none c.args.d, c.default-tally.ensures); within = c.requires }

pub with-tally-requires : goal.with-tally-requires
with-tally-requires c = tallied_fits _ _ c.loop.counter c.loop.invariant.so_far (omega arith)

pub loop-preserved : goal.loop-preserved
loop-preserved c =
    let loop = c.loop in
    let made = c.tick-t.ensures in
    record {
      so_far =
          ap (λ (t : Tally). having t c.tick-t.result.dispatcher) c.with-tally.ensures
          ∙ tallied_next _ loop.counter loop.tally loop.d _ _ loop.invariant.so_far made.result_value;
      within = made.within;
    }
