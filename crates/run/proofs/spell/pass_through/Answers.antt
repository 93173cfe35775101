-- `run::spell::pass_through` meets its promise: the turn at t leaves the segments within what the budgets that follow ask for.
use Prim.Native.Nat.{ℕ, ◌+◌}
use mathlib.Core.Path.{◌≡◌, ◌∙◌, sym, ap, subst⁻¹}
use native.Mathlib.Omega.{arith}
use Rattle.books.proofs.Book.{SegmentBook, segment_book, with_waits}
use Rattle.books.proofs.Budgets.Budgets.{turned_on, BudgetsFrom}
use Rattle.books.proofs.Spell.SpellLeaves.{after_ticks}
use Rattle.books.proofs.Stretches.Turns.{Bounded, turned_bounded}
use Rattle.clock.proofs.ClockLaws.{up_to_last_whole}
use Rattle.clock.specs.Clock.{later, moment, up_to_last}
use Rattle.clock.specs.declared.Moment.{Moment}
use Rattle.books.specs.declared.PlannedSpell.{PlannedSpell}
use Rattle.sizes.specs.Sizes.{clock_end}
use Rattle.run.proofs.spell.pass_through.Goals as goal

pub returns-then-budgets-eq0 : goal.returns-then-budgets-eq0
unfolding turned_on
returns-then-budgets-eq0 c =
    let a = c.args in
    let x = segment_book a.list.now a.c in
    ap (λ (y : SegmentBook). with_waits y a.p.after.waiting) c.turn_to.ensures
    ∙ ap (turned_on (after_ticks x a.t.tick a.i a.deadline a.p.after) (a.t.tick + a.p.ticks.ticks) a.i a.p.after)
    (sym c.if-budgets-eq0.true)

-- where the budgets begin
begins : (t : Moment) {i : ℕ} (p : PlannedSpell) {from : Moment} → BudgetsFrom (t.tick + p.ticks.ticks) i p.after p.budgets
    → from ≡ up_to_last (later t p.ticks) → from ≡ moment (t.tick + p.ticks.ticks)
begins t p may goes = goes ∙ up_to_last_whole (moment (t.tick + p.ticks.ticks)) (omega (arith, may.time))

pub pass-requires : goal.pass-requires
pass-requires c =
    let a = c.args in
    let then = begins a.t a.p c.requires.budgets_from c.later.ensures in
    let by = subst⁻¹ (Bounded (clock_end + 1) a.t.tick) c.turn_to.ensures (turned_bounded a.i a.deadline c.requires.bounded) in
    record {
      budgets_from = subst⁻¹ (λ (m : Moment). BudgetsFrom m.tick a.i a.p.after a.p.budgets) then c.requires.budgets_from;
      bounded =
          record {
            from = omega (arith, by.from, ap (λ (m : Moment). m.tick) then);
            counted = by.counted;
          };
    }
