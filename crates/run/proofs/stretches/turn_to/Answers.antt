-- `run::stretches::turn_to` meets its promise: where the stretch goes on nothing changes, and else what ends with it is done.
use mathlib.Core.Path.{refl, sym, ◌∙◌}
use Rattle.books.proofs.Book.{segment_book, segments_same}
use Rattle.books.proofs.Stretches.Turns.{turned_stays, turned_ends}
use Rattle.run.proofs.stretches.turn_to.Goals as goal

pub returns-then-goes_on : goal.returns-then-goes_on
returns-then-goes_on c =
    let a = c.args in
    sym
    (turned_stays (segment_book a.list.now a.c) a.t.tick a.i a.deadline
    (sym c.goes_on.ensures ∙ c.if-goes_on.true))

pub returns : goal.returns
returns c =
    let a = c.args in
    let ended = c.end_segment-count.ensures in
    segments_same ended.list_after (rw ended.value refl)
    ∙ sym
    (turned_ends (segment_book a.list.now a.c) a.t.tick a.i a.deadline
    (sym c.goes_on.ensures ∙ c.if-goes_on.false))
