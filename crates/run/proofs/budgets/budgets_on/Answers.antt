-- `run::budgets::budgets_on` meets its promise: within its ranges no number is too large, and the deadline is shown as it is.
use Prim.Native.Nat.{◌-◌}
use mathlib.Core.Path.{◌∙◌, ap, ap₂, sym}
use Rattle.books.proofs.Budgets.BudgetLaws.{budgets_as}
use Rattle.clock.specs.Clock.{later, up_to_last}
use Rattle.clock.specs.declared.Length.{Length}
use Rattle.clock.specs.declared.Moment.{Moment}
use Rattle.server.specs.Server.{holding}
use Rattle.run.proofs.budgets.budgets_on.Goals as goal

pub returns : goal.returns
returns c =
    let s = c.args.s in
    ap₂ (λ (d : Moment) (w : Length). holding s s.remaining d w)
    (c.later.ensures ∙ ap (λ (l : Length). up_to_last (later s.deadline l)) c.times-2.ensures)
    (c.less.ensures ∙ ap (λ (l : Length). record { ticks = s.waiting.ticks - l.ticks }) c.times.ensures)
    ∙ sym (budgets_as s c.args.n c.requires.able c.requires.few)
