-- `run::stretches::goes_on` meets its promise: under the same server the deadline tells.
use borrow.Author.Tests.{ne_eqb}
use mathlib.Core.Path.{sym, ◌∙◌}
use Rattle.books.proofs.Stretches.Turns.{stays_server, stays_other}
use Rattle.run.proofs.stretches.goes_on.Goals as goal

pub returns-then-c-i : goal.returns-then-c-i
returns-then-c-i c =
    let a = c.args in c.eq.ensures ∙ sym (stays_server a.c a.i a.deadline c.if-c-i.true)

pub returns-else-c-i : goal.returns-else-c-i
returns-else-c-i c =
    let a = c.args in ne_eqb _ _ c.if-c-i.false ∙ sym (stays_other a.c a.i a.deadline c.if-c-i.false)
