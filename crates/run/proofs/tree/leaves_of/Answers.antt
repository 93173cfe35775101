-- `run::tree::leaves_of` meets its promise: the next power of 2 is the least that is no less.
use native.Mathlib.Omega.{arith}
use Rattle.books.proofs.Tree.Winners.{leaves_power}
use Rattle.run.proofs.tree.leaves_of.Goals as goal

pub returns : goal.returns
returns c =
    let next = c.next_power_of_two.ensures in
    let bounds = c.min.ensures in
    let least = leaves_power c.args.count next.power.0 next.power.1 (omega (arith, bounds, next.lower_bound)) (omega (arith, bounds, next.upper_bound)) in
    omega (arith, c.max.ensures, least)
