-- `report::shares` meets its promise: an accepted file's table is admitted, so that what is left on its sheet and the shares are the frame.
use Prim.Native.Nat.{ℕ, ◌+◌}
use mathlib.Core.List.{List}
use mathlib.Core.Path.{◌≡◌, ◌∙◌, ap}
use native.Mathlib.Omega.{arith}
use Rattle.booking.proofs.SheetLaws.{sheet_left, admitted_left}
use Rattle.booking.specs.Admission.{shares}
use Rattle.booking.specs.Sheet.{left_of, sheet_of, table_on}
use Rattle.booking.specs.declared.Sheet.{Sheet}
use Rattle.books.proofs.Accepted.{Accepted, frame_read, work_read}
use Rattle.clock.specs.declared.Length.{Length}
use Rattle.workfile.specs.Layout.{header}
use Rattle.workfile.specs.Work.{Work, work, work_under}
use Rattle.workfile.specs.declared.Header.{Header}
use Rattle.report.proofs.shares.Goals as goal

-- what is left on the sheet of an accepted file's table, as it was read, and the shares are the frame
taken_off : (file : List ℕ) {h : Header} {sheet : Sheet} {left : Length} → Accepted file → h ≡ header file
    → sheet ≡ sheet_of h.frame (work_under h file).table → left ≡ left_of sheet.frame (table_on sheet)
    → left.ticks + shares (work file).frame (work file).table ≡ h.frame.ticks
taken_off file {h} {sheet} {left} fine read made is =
    let sheet_is = made ∙ ap (λ (w : Work). sheet_of w.frame w.table) (work_read file read) in
    let left_is = is ∙ sheet_left (work file).frame (work file).table fine.fit.servers sheet_is in
    omega (
      arith,
      ap (λ (l : Length). l.ticks) left_is,
      ap (λ (l : Length). l.ticks) (frame_read file read),
      admitted_left (work file).frame (work file).table fine.fit.admitted,
    )

pub returns : goal.returns
returns c = omega (arith, taken_off c.args.file.now c.requires c.header_of-h.ensures c.sheet_of.ensures c.left_on-left.ensures)
