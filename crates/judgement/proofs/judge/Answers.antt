-- `judgement::judge` meets its promise: the tests for 1, 2 and 3 in that order, and what passes them is for the work: what admission
-- refuses is refused, and the rest is for the arrivals.
use Prim.Native.Nat.{ℕ}
use mathlib.Core.Bool.{false}
use mathlib.Core.List.{List}
use mathlib.Core.Path.{◌≡◌, sym, ◌∙◌, ap}
use Rattle.booking.proofs.SheetLaws.{sheet_admission}
use Rattle.booking.specs.Admission.{admission}
use Rattle.booking.specs.Sheet.{sheet_of, table_on}
use Rattle.booking.specs.declared.Sheet.{Sheet}
use Rattle.refusal.specs.Refusals.{Said, on_paper}
use Rattle.workfile.specs.Work.{work_under}
use Rattle.workfile.specs.declared.Header.{Header}
use Rattle.judgement.specs.Judgement.{sizes_out_of_range}
use Rattle.judgement.proofs.JudgementLaws.{sized, judged_length, judged_sizes, judged_layout, judged_work, work_admitted, work_refused}
use Rattle.judgement.proofs.judge.Goals as goal

pub returns-then-is_length_out_of_range : goal.returns-then-is_length_out_of_range
returns-then-is_length_out_of_range c =
    sym (judged_length _ _ (sym c.is_length_out_of_range.ensures ∙ c.if-is_length_out_of_range.true))

pub returns-then-is_size_out_of_range : goal.returns-then-is_size_out_of_range
returns-then-is_size_out_of_range c =
    sym
    (judged_sizes _ _ c.header_of-h.ensures (sym c.is_length_out_of_range.ensures ∙ c.if-is_length_out_of_range.false)
    (sym c.is_size_out_of_range.ensures ∙ c.if-is_size_out_of_range.true))

pub returns-then-is_layout_broken : goal.returns-then-is_layout_broken
returns-then-is_layout_broken c =
    sym
    (judged_layout _ _ c.header_of-h.ensures (sym c.is_length_out_of_range.ensures ∙ c.if-is_length_out_of_range.false)
    (sym c.is_size_out_of_range.ensures ∙ c.if-is_size_out_of_range.false)
    (sym c.is_layout_broken.ensures ∙ c.if-is_layout_broken.true))

-- what the sheet says is said of the table under the header that was read
table_says : (file : List ℕ) (h : Header) {said : Said (Unit {0})} {sheet : Sheet} → said ≡ admission sheet.frame (table_on sheet)
    → sheet ≡ sheet_of h.frame (work_under h file).table → sizes_out_of_range h ≡ false
    → said ≡ admission (work_under h file).frame (work_under h file).table
table_says file h says read range =
    says ∙ sheet_admission (work_under h file).frame (work_under h file).table (sized h range).servers read

pub returns-in-Ok : goal.returns-in-Ok
returns-in-Ok c =
    let range = sym c.is_size_out_of_range.ensures ∙ c.if-is_size_out_of_range.false in
    let judged_so =
    judged_work c.args.file.now c.args.places c.header_of-h.ensures (sym c.is_length_out_of_range.ensures ∙ c.if-is_length_out_of_range.false)
    range
    (sym c.is_layout_broken.ensures ∙ c.if-is_layout_broken.false) in
    let says = table_says c.args.file.now c.header_of-h.result c.admit.ensures c.sheet_of.ensures range in
    c.judge_arrivals.ensures ∙ sym (judged_so ∙ work_admitted _ _ (sym says ∙ ap on_paper c.in-Ok.is))

pub returns-in-Err : goal.returns-in-Err
returns-in-Err c =
    let range = sym c.is_size_out_of_range.ensures ∙ c.if-is_size_out_of_range.false in
    let judged_so =
    judged_work c.args.file.now c.args.places c.header_of-h.ensures (sym c.is_length_out_of_range.ensures ∙ c.if-is_length_out_of_range.false)
    range
    (sym c.is_layout_broken.ensures ∙ c.if-is_layout_broken.false) in
    let says = table_says c.args.file.now c.header_of-h.result c.admit.ensures c.sheet_of.ensures range in
    sym (judged_so ∙ work_refused _ _ _ _ (sym says ∙ ap on_paper c.in-Err.is))
