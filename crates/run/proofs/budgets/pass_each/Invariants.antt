-- `run::budgets::pass_each` meets its promise: after k turns all stands as after k budgets.
use Rattle.books.proofs.Book.{segment_book}
use Rattle.run.proofs.PassedLaws.{Passed}
use Rattle.run.proofs.budgets.pass_each.Given as goal

abbrev pub invariant-loop : goal.invariant-loop
invariant-loop l =
    Passed (segment_book l.initial.list l.initial.current) l.initial.at.tick l.i l.s l.n (segment_book l.list l.current) l.at l.deadline
    l.waiting
    l.counter
