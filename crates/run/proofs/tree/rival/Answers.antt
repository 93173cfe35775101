-- `run::tree::rival` meets its promise: it climbs a tree that is not there, in which server i has the key of the server beside it.
-- The root of that tree is the least of the other keys.
use Rattle.run.proofs.RivalLaws.{would_starts, would_goes_on, would_ends}
use Rattle.run.proofs.tree.rival.Goals as goal

pub loop-at-init : goal.loop-at-init
loop-at-init c = would_starts c.requires c.leaf_of-leaf.ensures c.sibling.result c.sibling.ensures

pub loop-at-preserved : goal.loop-at-preserved
loop-at-preserved c =
    let beside = c.sibling-in-loop-at in
    would_goes_on c.loop-at.invariant beside.result c.min-least.result beside.ensures c.min-least.ensures
    c.loop-at-test.true

pub returns : goal.returns
returns c =
    would_ends c.requires c.leaf_of-leaf.ensures c.sibling.result c.sibling.ensures c.loop-at.invariant c.loop-at-test.false
