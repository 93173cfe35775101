-- `run::budgets::pass` meets its promise: where not every budget is written, the list is full before the first that is skipped.
use Prim.Native.Nat.{ℕ, suc, ◌+◌, ◌-◌, ◌/◌, ◌≤◌, ◌<◌, min}
use lib.ListN.{length}
use mathlib.Core.Path.{◌≡◌, sym, ◌∙◌, ap, ap₂}
use native.Mathlib.Omega.{arith}
use Rattle.books.proofs.Book.{SegmentBook, segment_book, segments_same}
use Rattle.books.proofs.Budgets.BudgetLaws.{budgets_few, on_bounded}
use Rattle.books.proofs.Budgets.Budgets.{turned_on}
use Rattle.books.proofs.Budgets.Skipped.{last_of, counted_least, skipped}
use Rattle.run.proofs.budgets.pass.Goals as goal

-- Where not every budget is written, some are skipped, and one is written.
some : (written n most : ℕ) → written ≡ min n most → (written ≡ n → ⊥) → written < n
some written n most least other = omega (arith, least)

one : (written n most : ℕ) → written ≡ min n most → (written ≡ n → ⊥) → 1 ≤ most → 1 ≤ written
one written n most least other lower = omega (arith, least)

pub overflow_add-current : goal.overflow_add-current
overflow_add-current c =
    let a = c.args in
    omega (
      arith,
      budgets_few c.requires.budgets_from,
      some _ _ _ c.min-written.ensures c.if-written-n.false,
      ap (λ (x : SegmentBook). x.current.count) c.pass_each-current.ensures,
      (on_bounded a.i a.s c.min-written.result c.requires.bounded).counted,
    )

pub returns : goal.returns
returns c =
    let a = c.args in
    let may = c.requires.budgets_from in
    let written = c.min-written.result in
    let less = some _ _ _ c.min-written.ensures c.if-written-n.false in
    let least = one _ _ _ c.min-written.ensures c.if-written-n.false c.until_full.ensures.lower_bound in
    let before = segment_book a.list.now a.c in
    let passed = c.pass_each-current.ensures in
    let was = turned_on before a.t.tick a.i a.s written in
    let whole : suc (a.n - 1) ≡ a.n = omega (arith, less) in
    let counts = ap (λ (x : SegmentBook). x.current.count) passed in
    let skip : a.n - written ≡ suc (a.n - 1) - written = omega (arith, less) in
    let period : 1 ≤ a.s.period.ticks = omega (arith, may.able.budget, may.able.fits) in
    let same : length c.pass_each-current.new.list ≡ length a.list.now = omega arith in
    let full : length was.list / 4 ≤ was.current.count
    = omega (
      arith,
      counted_least before a.t.tick a.i a.s may.place period written least,
      c.min-written.ensures,
      c.until_full.ensures.held_bound,
      less,
      ap (λ (x : SegmentBook). length x.list / 4) passed,
      ap (λ (n : ℕ). n / 4) same,
    ) in
    segments_same (ap (λ (x : SegmentBook). x.list) passed)
    (c.last_of.ensures ∙ ap₂ (λ (m k : ℕ). last_of a.t.tick a.i a.s (a.n - 1) (m + k)) counts skip)
    ∙ sym (skipped before a.t.tick a.i a.s may.place period written least full (a.n - 1) (omega (arith, less)))
    ∙ ap (turned_on before a.t.tick a.i a.s) whole
