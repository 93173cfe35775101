-- `judgement::judge_arrivals` meets its promise: after k turns the first k arrivals have passed, and `before` is the moment of the last.
use borrow.Author.Tests.{leb-false, leb-true, ltb-false, ltb-true}
use mathlib.Core.Path.{sym, ◌∙◌}
use native.Mathlib.Numerals.{add-one}
use native.Mathlib.Omega.{arith}
use Rattle.judgement.proofs.PassedLaws.{passed_more, passed_backward, passed_late}
use Rattle.judgement.proofs.judge_arrivals.Goals as goal

pub returns-then-is_backward : goal.returns-then-is_backward
returns-then-is_backward c =
    sym
    (passed_backward _ c.loop-k.invariant c.arrival_of-a.ensures _
    (omega arith)
    (sym c.is_faulty-faulty.ensures ∙ c.if-faulty.false)
    (ltb-true _ _ (sym c.is_backward.ensures ∙ c.if-is_backward.true)))

pub returns-then-is_late : goal.returns-then-is_late
returns-then-is_late c =
    sym
    (passed_late _ c.loop-k.invariant c.arrival_of-a.ensures _
    (omega arith)
    (sym c.is_faulty-faulty.ensures ∙ c.if-faulty.false)
    (ltb-false _ _ (sym c.is_backward.ensures ∙ c.if-is_backward.false))
    (leb-true _ _ (sym c.is_late.ensures ∙ c.if-is_late.true)))

pub loop-k-preserved : goal.loop-k-preserved
loop-k-preserved c =
    rw add-one
    (passed_more _ c.loop-k.invariant c.arrival_of-a.ensures
    (sym c.is_faulty-faulty.ensures ∙ c.if-faulty.false)
    (ltb-false _ _ (sym c.is_backward.ensures ∙ c.if-is_backward.false))
    (leb-false _ _ (sym c.is_late.ensures ∙ c.if-is_late.false)))
