-- `run::reading::next_stop` meets its promise: its test is whether there is an arrival j.
use Prim.Native.Nat.{min}
use mathlib.Core.Path.{◌≡◌, ◌∙◌, sym, ap}
use native.Mathlib.Omega.{arith}
use Rattle.arrival.specs.declared.Arrival.{Arrival}
use Rattle.books.proofs.Accepted.{next_stop, arrival_read, arrivals_read, stop_arrival, stop_behind}
use Rattle.clock.proofs.OrderLaws.{earlier_is}
use Rattle.clock.specs.Clock.{moment}
use Rattle.workfile.specs.Work.{work}
use Rattle.run.proofs.reading.next_stop.Goals as goal

pub returns-then-j-h : goal.returns-then-j-h
returns-then-j-h c =
    let a = c.args in
    let read = c.header_of-h.ensures in
    let stop : min c.arrival_of.result.moment.tick a.until.tick ≡ next_stop (work a.file.now) a.until.tick a.j =
    omega (
      arith,
      ap (λ (x : Arrival). x.moment.tick) (c.arrival_of.ensures ∙ arrival_read a.file.now read a.j),
      stop_arrival (work a.file.now) a.until.tick a.j (omega (arith, c.if-j-h.true, arrivals_read _ read)),
    ) in
    c.min.ensures ∙ earlier_is _ _ ∙ ap moment stop

pub returns-else-j-h : goal.returns-else-j-h
returns-else-j-h c =
    let a = c.args in
    ap moment (sym (stop_behind _ a.until.tick a.j (omega (arith, c.if-j-h.false, arrivals_read _ c.header_of-h.ensures))))
