-- `run::budgets::pass_each` meets its promise: after k turns all stands as after k budgets.
use borrow.Author.Rules.{rules}
use native.Mathlib.Numerals.{add-one}
use Rattle.run.proofs.PassedLaws.{enough, may_end, passed_more, passed_none}
use Rattle.run.proofs.budgets.pass_each.Goals as goal

pub loop-init : goal.loop-init
loop-init c = passed_none

pub turn_to-current-requires : goal.turn_to-current-requires
turn_to-current-requires c =
    let pre = c.requires in
    may_end pre.budgets_from pre.bounded c.loop.invariant c.loop-test.true

pub less-waiting-requires : goal.less-waiting-requires
less-waiting-requires c = let pre = c.requires in enough pre.budgets_from pre.bounded c.loop.invariant c.loop-test.true

pub loop-preserved : goal.loop-preserved
loop-preserved c =
    let pre = c.requires in
    rw add-one
    (passed_more pre.budgets_from pre.bounded c.loop.invariant c.loop-test.true c.turn_to-current.ensures c.less-waiting.ensures
    c.later-at.ensures
    c.later-deadline.ensures
    (search rules))
