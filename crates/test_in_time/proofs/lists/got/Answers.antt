-- `test_in_time::lists::got` meets its promise: after k turns the ticks of the first k segments are added up, which are no more than all.
use Prim.Native.Nat.{ℕ, ◌<◌}
use mathlib.Core.List.{List}
use mathlib.Core.Path.{refl, ◌∙◌, ap, subst⁻¹}
use native.Mathlib.Omega.{arith}
use Rattle.callers.specs.Traces.{InTime}
use Rattle.counting.specs.Sum.{sum}
use Rattle.trace.specs.Written.{fitting, segment_in}
use Rattle.test_in_time.specs.declared.bandwidth.Window.{Window}
use Rattle.test_in_time.specs.Working.Lists.{got_of}
use Rattle.test_in_time.proofs.ListsLaws.{sum_next, sum_next_small}
use Rattle.test_in_time.proofs.lists.got.Goals as goal

-- what segment j of a list has
abbrev each : Window → List ℕ → ℕ → ℕ
each w list j = got_of w (segment_in list j)

pub loop-k-init : goal.loop-k-init
unfolding sum
loop-k-init c = refl

pub overflow_add-sum : goal.overflow_add-sum
overflow_add-sum c =
    let f = each c.args.w c.args.list.now in
    let held = fitting c.args.segments c.args.list.now in
    let below : c.loop-k.k < held = omega (arith, c.loop-k-test.true, c.held-held.ensures) in
    let one = c.got_of-sum.ensures ∙ ap (got_of c.args.w) c.segment_at-s.ensures in
    omega (arith, sum_next_small f c.loop-k.invariant one held below, c.requires.list_bound)

pub loop-k-preserved : goal.loop-k-preserved
loop-k-preserved c =
    let one = c.got_of-sum.ensures ∙ ap (got_of c.args.w) c.segment_at-s.ensures in
    sum_next (each c.args.w c.args.list.now) c.loop-k.invariant one
