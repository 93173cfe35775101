-- `run::serving::serve` meets its promise: the budget is spent or not, and the postponed deadline can be shown.
use mathlib.Core.Path.{◌∙◌, ap, ap₂, sym}
use native.Mathlib.Omega.{arith}
use Rattle.clock.specs.Clock.{later}
use Rattle.clock.specs.declared.Length.{Length}
use Rattle.clock.specs.declared.Moment.{Moment}
use Rattle.clock.proofs.ClockLaws.{up_to_last_whole}
use Rattle.moments.proofs.OneGoLaws.{served_less, served_spent}
use Rattle.server.specs.Server.{holding}
use Rattle.run.proofs.serving.serve.Goals as goal

pub returns-then-remaining-eq0 : goal.returns-then-remaining-eq0
returns-then-remaining-eq0 c =
    let s = c.args.s in
    let none = ap (λ (l : Length). l.ticks) c.less-remaining.ensures in
    ap₂ (λ (d : Moment) (w : Length). holding s s.budget d w)
    (c.later.ensures ∙ up_to_last_whole (later s.deadline s.period) c.requires.deadline)
    c.less-waiting.ensures
    ∙ sym (served_spent s c.args.by.ticks (omega (arith, c.if-remaining-eq0.true, none)))

pub returns-else-remaining-eq0 : goal.returns-else-remaining-eq0
returns-else-remaining-eq0 c =
    let s = c.args.s in
    let some = ap (λ (l : Length). l.ticks) c.less-remaining.ensures in
    ap₂ (λ (r w : Length). holding s r s.deadline w) c.less-remaining.ensures c.less-waiting.ensures
    ∙ sym (served_less s c.args.by.ticks (omega (arith, c.if-remaining-eq0.false, some)))
