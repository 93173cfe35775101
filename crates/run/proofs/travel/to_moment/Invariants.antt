-- `run::travel::to_moment` meets its promise: what `Travels` says holds between any two events, and no event goes on behind its end.
use Prim.Native.Nat.{◌-◌}
use Rattle.books.proofs.Book.{lent_in, here, book, job_book, segment_book}
use Rattle.books.proofs.Travel.ArrivalTaken.{Taking}
use Rattle.books.proofs.Travel.Travels.{OnTheWay}
use Rattle.workfile.specs.Work.{work}
use Rattle.run.proofs.travel.to_moment.Given as goal

abbrev pub invariant-loop-next : goal.invariant-loop-next
invariant-loop-next l =
    Taking (work l.file) l.until.tick (here l.t.tick l.initial.j l.initial.d) (here l.t.tick l.j l.d) l.tree l.next.tick l.root

abbrev pub decreases-loop-next : goal.decreases-loop-next
decreases-loop-next l = (work l.file).arrivals - l.j

abbrev pub invariant-loop-until : goal.invariant-loop-until
invariant-loop-until l =
    OnTheWay (lent_in (work l.file) l.initial.t.tick l.initial.c l.initial.list l.initial.finishes) (here l.t.tick l.j l.d)
    (book l.turns (segment_book l.list l.c) (job_book l.lines l.finishes))
    l.until.tick
    l.next.tick
    l.root

abbrev pub decreases-loop-until : goal.decreases-loop-until
decreases-loop-until l = l.until.tick - l.t.tick
