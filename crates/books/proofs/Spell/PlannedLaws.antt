-- Laws of a spell that is planned: no number in it is too large, and it is what the record says.
use Prim.Native.Nat.{ℕ, zero, suc, ◌+◌, ◌-◌, ◌*◌, ◌≤◌, ◌<◌, min}
use lib.Dec.{eqb}
use mir.Val.{bool_byte}
use mathlib.Core.Bool.{Bool, true, false, cond}
use mathlib.Core.Path.{◌≡◌, refl, sym, ◌∙◌, ap, subst⁻¹, subst₂}
use native.Mathlib.Decide.{dec_lt}
use native.Mathlib.Nat.{le-mul_of_pos_right, mul-le-mul, mul-le-mul_left}
use native.Mathlib.Omega.{arith}
use Rattle.clock.specs.Clock.{last_tick}
use Rattle.clock.specs.declared.Length.{Length}
use Rattle.clock.specs.declared.Moment.{Moment}
use Rattle.moments.proofs.OneGo.{served_for}
use Rattle.moments.proofs.OneGoLaws.{served_less, served_spent, served_waiting, served_budget}
use Rattle.server.specs.Ranges.{Ranged}
use Rattle.server.specs.declared.Server.{Server}
use Rattle.sizes.specs.Sizes.{clock_end, most_frame}
use Rattle.books.proofs.Budgets.BudgetLaws.{periods_few}
use Rattle.books.proofs.Book.{SegmentBook}
use Rattle.books.proofs.Budgets.Budgets.{Able, Budgets, BudgetsFrom, budgets_on, Further}
use Rattle.books.proofs.Tree.Keys.{key_of}
use Rattle.books.specs.declared.PlannedSpell.{PlannedSpell}
use Rattle.books.specs.declared.Turns.{Turns}
use Rattle.books.proofs.Spell.Planned.{MayGo, MayPlan, Planned}
use Rattle.books.specs.declared.WinnerTree.{WinnerTree}

-- A server within its ranges before the end of the clock.
module _ {t : Moment} {s : Server} (ranged : Ranged t s) (before : t.tick < clock_end) where
  pub ranged_early : s.deadline.tick ≤ most_frame * clock_end
  ranged_early = omega (arith, ranged.deadline, mul-le-mul ranged.period before)

  pub ranged_able : Able s
  ranged_able =
      record {
        budget = ranged.budget;
        fits = ranged.fits;
        period = ranged.period;
        remaining = ranged.remaining;
        deadline = omega (arith, ranged_early);
      }

-- A server after k ticks: where it is postponed its deadline is one period later.
pub served_able : (s : Server) (k : ℕ) → Able s → s.deadline.tick ≤ most_frame * clock_end → Able (served_for s k)
served_able s k able early = go (dec_lt k s.remaining.ticks)
  where
    go : Dec (k < s.remaining.ticks) → Able (served_for s k)
    go (yes l) =
        subst⁻¹ Able (served_less s k l)
        (record {
          budget = able.budget;
          fits = able.fits;
          period = able.period;
          remaining = omega (arith, able.remaining);
          deadline = able.deadline;
        })
    go (no l) =
        subst⁻¹ Able (served_spent s k (omega arith))
        (record {
          budget = able.budget;
          fits = able.fits;
          period = able.period;
          remaining = omega arith;
          deadline = omega (arith, able.period, early);
        })

-- whether a budget is spent, as a number
pub spent_number : (b : Bool) → bool_byte b ≡ cond b 1 0
spent_number true = refl
spent_number false = refl

-- a budget is spent once at most
pub spent_once : (k remaining : ℕ) {n : ℕ} → n ≡ cond (eqb k remaining) 1 0 → n ≤ 1
spent_once k remaining {n} is = subst⁻¹ (λ (m : ℕ). m ≤ 1) is (go (eqb k remaining))
  where
    go : (b : Bool) → cond b 1 0 ≤ 1
    go true = omega arith
    go false = omega arith

-- what is left of the ticks is within the work that then waits
left_works : (ticks : ℕ) {spare most waiting n : ℕ} → ticks + spare ≤ most → most ≤ waiting → n ≤ spare → n ≤ waiting - ticks
left_works ticks within work few = omega arith

-- The ticks of a spell, the server after them, and how many are left.
module _ {tree : WinnerTree} {i : ℕ} {s : Server} {most ticks spare : ℕ} {after : Server} (may : MayPlan tree i s most)
    (ticks_is : ticks ≡ min s.remaining.ticks most) (after_is : after ≡ served_for s ticks)
    (spare_is : spare ≡ most - ticks) where
  pub after_able : Able after
  after_able = subst⁻¹ Able after_is (served_able s ticks may.able may.early)

  after_budget : after.budget.ticks ≡ s.budget.ticks
  after_budget = ap (λ (x : Server). x.budget.ticks) after_is ∙ ap (λ (q : Length). q.ticks) (served_budget s ticks)

  after_waiting : after.waiting.ticks ≡ s.waiting.ticks - ticks
  after_waiting = ap (λ (x : Server). x.waiting.ticks) after_is ∙ served_waiting s ticks

  spare_left : ticks + spare ≤ most
  spare_left = omega arith

  -- and n whole budgets
  module _ {n : ℕ} (further : Further tree i after spare n) where
    further_spare : n * s.budget.ticks ≤ spare
    further_spare = go n (λ l. omega (arith, further.fits l, ap (λ (q : ℕ). n * q) after_budget))
      where
        go : (m : ℕ) → (0 < m → m * s.budget.ticks ≤ spare) → m * s.budget.ticks ≤ spare
        go zero fits = omega arith
        go (suc m) fits = fits (omega arith)

    further_works : n * after.budget.ticks ≤ after.waiting.ticks
    further_works =
        subst₂ (λ (work waiting : ℕ). work ≤ waiting) (ap (λ (q : ℕ). n * q) (sym after_budget)) (sym after_waiting)
        (left_works ticks spare_left may.work further_spare)

    -- each has a tick at least
    pub further_few : n ≤ clock_end
    further_few = omega (arith, further_spare, le-mul_of_pos_right n may.able.budget, may.time)

    pub further_budgets : Budgets after n
    further_budgets = record { able = after_able; few = further_few; works = further_works }

    pub last_key : (budgets_on after n).deadline.tick * 64 + i ≤ last_tick
    unfolding budgets_on
    last_key = omega (arith, after_able.deadline, periods_few after n after_able further_few, may.leaf.place, may.leaf.winners.few)

    pub gone_few : ticks + n * s.budget.ticks ≤ clock_end
    gone_few = omega (arith, further_spare, may.time)

    pub planned : {last : Server} {key gone postponed : ℕ} → last ≡ budgets_on after n → key ≡ key_of last i
        → gone ≡ ticks + n * s.budget.ticks → postponed ≡ cond (eqb ticks s.remaining.ticks) 1 0 + n
        → Planned tree i s most
        (record {
          ticks = record { ticks = ticks };
          after = after;
          budgets = n;
          last = last;
          key = key;
          gone = record { ticks = gone };
          postponed = postponed;
        })
    planned {last} {key} {gone} {postponed} last_is key_is gone_is postponed_is =
        record {
          some = omega (arith, may.some, may.charged);
          inside = omega arith;
          budget = omega arith;
          after_is = after_is;
          spare = spare;
          left = omega arith;
          further = further;
          last_is = last_is;
          key_is = key_is;
          gone_is = gone_is;
          gone_inside = omega (arith, further_spare);
          postponed_is = postponed_is;
          able = after_able;
          works = further_works;
          gone_after = ap (λ (q : ℕ). ticks + n * q) after_budget ∙ sym gone_is;
        }

-- a spell postpones its server at most once more than it has budgets, and each budget takes a tick at least
pub planned_few : {tree : WinnerTree} {i : ℕ} {s : Server} {most : ℕ} {p : PlannedSpell} → Planned tree i s most p
    → 1 ≤ s.budget.ticks → p.postponed ≤ most + 1
planned_few {s = s} {p = p} plan one =
    omega (
      arith,
      plan.postponed_is,
      spent_once p.ticks.ticks s.remaining.ticks refl,
      plan.gone_is,
      plan.gone_inside,
      mul-le-mul_left p.budgets one,
    )

-- there is work and time for its budgets, which begin behind its ticks
pub planned_budgets : {t i : ℕ} {s : Server} {most : ℕ} {b : Turns} {x : SegmentBook} {p : PlannedSpell}
    → MayGo t i s most b x → Planned b.tree i s most p → BudgetsFrom (t + p.ticks.ticks) i p.after p.budgets
planned_budgets may plan =
    record {
      place = omega (arith, may.plans.leaf.place, may.plans.leaf.winners.few);
      able = plan.able;
      time = omega (arith, plan.gone_after, plan.gone_inside, may.in_time);
      works = plan.works;
    }
