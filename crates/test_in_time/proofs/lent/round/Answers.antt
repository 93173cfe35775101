-- `test_in_time::lent::round` meets its promise: an arrival begins the count, and each tick carries it on.
use Rattle.test_in_time.proofs.CountedLaws.{counts_arrived, counts_ticked}
use Rattle.test_in_time.proofs.lent.round.Goals as goal

pub loop-init : goal.loop-init
loop-init c =
    let made = c.arrival.ensures in
    counts_arrived _ _ _ _ c.arrival.result _ (made.d_after, made.within)

pub loop-preserved : goal.loop-preserved
loop-preserved c =
    let made = c.tick.ensures in
    counts_ticked _ _ c.loop.invariant c.tick.result _ (made.d_after, made.within) _ c.with-got.ensures
