-- A spell leaves some of the job that was served, or ends it; and so the run stands between two events again.
use Prim.Native.Nat.{ℕ, zero, suc, ◌+◌, ◌-◌, ◌*◌, ◌≤◌, ◌<◌}
use lib.ListN.{length, get_or, set}
use lib.Seq.{set-set}
use mathlib.Core.Path.{◌≡◌, refl, sym, ◌∙◌, ap}
use native.Mathlib.Decide.{dec_lt}
use native.Mathlib.Omega.{arith}
use Rattle.clock.specs.declared.Length.{Length}
use Rattle.dispatcher.specs.Pick.{server_at}
use Rattle.judgement.proofs.FitLaws.{Fit}
use Rattle.books.specs.declared.Gone.{Gone}
use Rattle.books.specs.declared.PlannedSpell.{PlannedSpell}
use Rattle.books.specs.declared.Turns.{Turns}
use Rattle.books.proofs.Book.{Run, Here, Book, book, SegmentBook, JobBook, jobs_same}
use Rattle.books.proofs.Jobs.Jobs.{NextJob}
use Rattle.books.proofs.Jobs.Opened.{WentOn}
use Rattle.books.proofs.Spell.Planned.{Planned}
use Rattle.books.proofs.Spell.SpellBooks.{Spelled, here_after, gone_is, left_then, its_left, spell_ran, spell_ended}
use Rattle.books.proofs.Travel.Travels.{Travels}

module _ {r : Run} {h : Here} {b : Book} (fit : Fit r.work (length r.finishes)) (v : Travels r h b) {i most : ℕ} {turns : Turns}
    {segments : SegmentBook} {g : Gone} (x : Spelled r h b i most turns segments g) (long : r.work.arrivals ≤ length r.finishes) {after : JobBook}
    (follows : NextJob r.work i (suc (get_or b.jobs.lines.job i 0)) (get_or b.jobs.lines.behind (get_or b.jobs.lines.job i 0) 0))
    (went : WentOn i g.gone.ticks (h.t + g.gone.ticks) b.jobs after) where
  abbrev left : ℕ
  left = get_or b.jobs.lines.left i 0

  abbrev spell : PlannedSpell
  spell = x.leaves.spell

  abbrev budgets : ℕ
  budgets = spell.budgets * spell.after.budget.ticks

  p : Planned b.turns.tree i (server_at h.dispatcher i) most spell
  p = x.leaves.planned

  -- Its ticks are m + 1.
  module _ (m : ℕ) (ticks_are : spell.ticks.ticks ≡ suc m) where
    gone : g.gone.ticks ≡ suc m + budgets
    gone = omega (arith, gone_is fit v x)

    -- what is left in the end is told alike, whether in one step or in two
    left_are : set (left_then fit v x m ticks_are) i (get_or (left_then fit v x m ticks_are) i 0 - budgets) ≡ after.lines.left
    left_are =
        set-set b.jobs.lines.left i (left - suc m) (get_or (left_then fit v x m ticks_are) i 0 - budgets)
        ∙ ap (set b.jobs.lines.left i) (omega (arith, its_left fit v x m ticks_are, gone))
        ∙ sym went.left_is

    -- where the job ends there were no budgets
    no_budgets : left - g.gone.ticks ≡ 0 → budgets ≡ 0
    no_budgets ended = go spell.budgets p.further.fits refl
      where
        go : (n : ℕ) → (0 < n → n * spell.after.budget.ticks < p.spare) → n ≡ spell.budgets → n * spell.after.budget.ticks ≡ 0
        go zero fits e = omega arith
        go (suc n) fits e =
            let no : ⊥
            = omega (arith, fits (omega arith), p.left, x.of_job, gone, ap (λ (k : ℕ). k * spell.after.budget.ticks) e) in
            absurd no

    by_left : Dec (0 < left - g.gone.ticks) → Travels r (here_after h i g) (book turns segments after)
    by_left (yes more) =
        let same = went.goes_on more in
        spell_ran fit v x m ticks_are (omega (arith, gone))
        (jobs_same (sym same.0) left_are (sym went.behind_is) (sym same.1))
    by_left (no l) =
        let none : budgets ≡ 0 = no_budgets (omega arith) in
        let all : suc m ≡ left = omega (arith, gone, ap (λ (l : Length). l.ticks) x.leaves.gone_is, p.gone_inside, x.of_job) in
        let now : h.t + suc m ≡ h.t + g.gone.ticks = omega (arith, gone) in
        let over = went.ends (omega arith) in
        spell_ended fit v x m ticks_are long all follows
        (jobs_same (sym over.0) left_are (sym went.behind_is) (ap (set b.jobs.finishes (get_or b.jobs.lines.job i 0)) now ∙ sym over.1))

  pub spell_went : Travels r (here_after h i g) (book turns segments after)
  spell_went = go spell.ticks.ticks refl
    where
      go : (m : ℕ) → spell.ticks.ticks ≡ m → Travels r (here_after h i g) (book turns segments after)
      go zero e = let no : ⊥ = omega (arith, p.some) in absurd no
      go (suc m) e = by_left m e (dec_lt 0 (left - g.gone.ticks))
