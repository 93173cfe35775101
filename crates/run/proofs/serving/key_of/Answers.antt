-- `run::serving::key_of` meets its promise: its test is the one that the key of a server is told by.
use mathlib.Core.Path.{sym, ◌∙◌}
use Rattle.books.proofs.Tree.Keys.{key_passed_over, key_works}
use Rattle.run.proofs.serving.key_of.Goals as goal

pub returns-then-is_passed_over : goal.returns-then-is_passed_over
returns-then-is_passed_over c =
    let a = c.args in
    sym (key_passed_over a.s a.i (sym c.is_passed_over.ensures ∙ c.if-is_passed_over.true))

pub returns-else-is_passed_over : goal.returns-else-is_passed_over
returns-else-is_passed_over c =
    let a = c.args in
    sym (key_works a.s a.i (sym c.is_passed_over.ensures ∙ c.if-is_passed_over.false))
