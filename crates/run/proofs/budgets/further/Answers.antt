-- `run::budgets::further` meets its promise: it takes the lesser of how many budgets fit and how many win.
use native.Mathlib.Omega.{arith}
use Rattle.books.proofs.Budgets.BudgetLaws.{further_some}
use Rattle.run.proofs.budgets.further.Goals as goal

pub returns : goal.returns
returns c =
    further_some _ _ _ _ c.requires.able c.if-s-budget.false c.rival-rival.ensures c.rises.ensures c.fits_in.ensures
    (omega arith)
    (omega arith)
