-- `opening::judge` meets its promise: what passes the test for 2 is for admission, and its sheet has room for all its bookings.
use Prim.Native.Nat.{ℕ}
use lib.ListN.{length}
use mathlib.Core.Bool.{Bool, false}
use mathlib.Core.List.{List}
use mathlib.Core.Path.{◌≡◌, sym, ◌∙◌, ap}
use Rattle.std.proofs.Common.{rules}
use Rattle.std.specs.Prelude.{Err}
use Rattle.booking.proofs.SheetLaws.{sheet_admission}
use Rattle.booking.specs.Admission.{admission}
use Rattle.booking.specs.Sheet.{sheet_of, table_on}
use Rattle.booking.specs.declared.Sheet.{Sheet}
use Rattle.clock.specs.declared.Length.{Length}
use Rattle.refusal.specs.Refusals.{Said, on_paper}
use Rattle.opening.specs.Opening.{listed, out_of_range, table_judged}
use Rattle.opening.proofs.OpeningLaws.{judged_out_of_range, judged_in_range, in_range}
use Rattle.opening.proofs.judge.Goals as goal

pub returns-then-is_out_of_range : goal.returns-then-is_out_of_range
returns-then-is_out_of_range c = judged_out_of_range _ _ (sym c.is_out_of_range.ensures ∙ c.if-is_out_of_range.true)

-- past the first test the judgement is what is said of the sheet
says : (l : List ℕ) (frame : Length) {test : Bool} {sheet : Sheet} {said : Said (Unit {0})} → test ≡ out_of_range (length l) frame → test ≡ false
    → sheet ≡ sheet_of frame (listed l) → said ≡ admission sheet.frame (table_on sheet) → table_judged l frame ≡ said
says l frame is off read said =
    let range = sym is ∙ off in
    judged_in_range l frame range ∙ sym (said ∙ sheet_admission frame (listed l) (in_range (length l) frame range).few read)

pub returns : goal.returns
returns c =
    let told = says c.args.table.now c.args.frame c.is_out_of_range.ensures c.if-is_out_of_range.false c.sheet_of-sheet.ensures c.admit.ensures in
    (told ∙ ap on_paper c.in_ok-admit.was, c.sheet_of-sheet.ensures)

pub returns-in_err-admit : goal.returns-in_err-admit
returns-in_err-admit c =
    let told = says c.args.table.now c.args.frame c.is_out_of_range.ensures c.if-is_out_of_range.false c.sheet_of-sheet.ensures c.admit.ensures in
    let same : c.from_residual.result ≡ Err c.in_err-admit.field-0.0 = search rules in
    rw same (told ∙ ap on_paper c.in_err-admit.was)
