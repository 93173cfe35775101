-- `booking::take_off` meets its promise: after so many turns what is left and as many shares are the frame.
use Rattle.booking.specs.Sheet.{table_on}
use Rattle.booking.proofs.SheetLaws.{LeftBehind}
use Rattle.booking.proofs.take_off.Given as goal

abbrev pub invariant-loop-at : goal.invariant-loop-at
invariant-loop-at l = LeftBehind l.sheet.frame (table_on l.sheet) l.at l.left
