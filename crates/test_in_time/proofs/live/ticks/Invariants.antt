-- `test_in_time::live::ticks` meets its promise: every turn's dispatcher is live, as the tick promises.
use Rattle.test_in_time.specs.Working.Live.{Live}
use Rattle.test_in_time.proofs.live.ticks.Given as goal

abbrev pub invariant-loop : goal.invariant-loop
invariant-loop g l = Live l.at
