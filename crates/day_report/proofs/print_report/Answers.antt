-- `day_report::print_report` meets its promise: what is written is what `whole_report` leaves of the bytes that were read.
use mathlib.Core.Logic.{inl, inr}
use mathlib.Core.Path.{refl}
use Rattle.day_report.proofs.print_report.Goals as goal

pub returns-then-not-is_ended : goal.returns-then-not-is_ended
returns-then-not-is_ended g c = inl refl

pub returns-then-is_err : goal.returns-then-is_err
returns-then-is_err g c =
    let report = c.whole_report-end in
    let read = c.read_full-length in
    inr (read.result, report.result, read.ensures.0, report.ensures.text_after)

pub returns : goal.returns
returns g c =
    let report = c.whole_report-end in
    let read = c.read_full-length in
    inr (read.result, report.result, read.ensures.0, report.ensures.text_after)
