-- `run::tree::climb` meets its promise: every turn is a turn of the climb, and after so many it has reached the root.
use Prim.Native.Nat.{ℕ, ◌-◌, ◌/◌}
use mathlib.Core.Path.{subst}
use native.Mathlib.Omega.{arith}
use Rattle.books.proofs.Tree.Climb.{Below, one_up, root_reached, climb_goes_on, climb_over}
use Rattle.run.proofs.tree.climb.Goals as goal

pub loop-preserved : goal.loop-preserved
loop-preserved c =
    let loop = c.loop in
    let beside = c.sibling in
    let up = one_up loop.at (c.args.turns - loop.counter) loop.invariant.up (omega (arith, c.loop-test.true)) in
    record {
      climb = climb_goes_on loop.invariant.climb beside.result c.min-least.result beside.ensures c.min-least.ensures up.0;
      up = subst (λ (left : ℕ). Below (loop.at / 2) left) (omega arith) up.1;
    }

pub returns : goal.returns
returns c =
    let loop = c.loop in
    climb_over loop.invariant.climb
    (root_reached loop.at (c.args.turns - loop.counter) loop.invariant.up (omega (arith, c.loop-test.false)))
