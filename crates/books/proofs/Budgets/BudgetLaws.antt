-- Laws of whole budgets in one go: how many there may be, and that no number on the way is too large.
use Prim.Native.Nat.{ℕ, zero, suc, ◌+◌, ◌-◌, ◌*◌, ◌≤◌, ◌<◌}
use mathlib.Core.Path.{◌≡◌, sym, ◌∙◌, ap}
use native.Mathlib.Nat.{le-mul_of_pos_right, mul-le-mul_right, mul-le-mul}
use native.Mathlib.Omega.{arith}
use Rattle.clock.proofs.ClockLaws.{up_to_last_whole}
use Rattle.clock.specs.Clock.{moment, ticks, later, up_to_last}
use Rattle.clock.specs.declared.Moment.{Moment}
use Rattle.server.specs.declared.Server.{Server}
use Rattle.sizes.specs.Sizes.{clock_end, most_frame}
use Rattle.books.proofs.Book.{SegmentBook}
use Rattle.books.proofs.Budgets.Budgets.{budgets_on, turned_on, Able, BudgetsFrom, Further}
use Rattle.books.proofs.Stretches.Turns.{Bounded, turned_bounded}
use Rattle.books.specs.declared.WinnerTree.{WinnerTree}
use Rattle.books.proofs.Tree.Winners.{Rival}

-- the first r of the numbers that rise from `from` on by `step` are below a bound
abbrev pub RisesBelow : ℕ → ℕ → ℕ → ℕ → Type 0
RisesBelow from step bound r = (n : ℕ) → n < r → from + n * step < bound

-- How many budgets a server may go on for: none,
pub further_none : (tree : WinnerTree) (i : ℕ) (s : Server) (spare : ℕ) → Further tree i s spare 0
further_none tree i s spare =
    record {
      full = λ l. let no : ⊥ = omega arith in absurd no;
      fits = λ l. let no : ⊥ = omega arith in absurd no;
      wins = λ n j l b other. let no : ⊥ = omega arith in absurd no;
    }

-- or, with a full budget, as many as fit and as win over the least of the other keys
pub further_some : (tree : WinnerTree) (i : ℕ) (s : Server) (spare : ℕ) {rival wins fits r : ℕ} → Able s
    → s.budget.ticks ≤ s.remaining.ticks → Rival tree i rival
    → RisesBelow (s.deadline.tick * 64 + i) (64 * s.period.ticks) rival wins → fits * s.budget.ticks < spare → r ≤ wins → r ≤ fits
    → Further tree i s spare r
further_some tree i s spare {rival} {wins} {fits} {r} able full least below enough by-wins by_fits =
    record {
      full = λ l. omega (arith, able.remaining);
      fits = λ l. omega (arith, mul-le-mul_right s.budget.ticks by_fits);
      wins = λ n j l b other. omega (arith, below n (omega arith), least.least j b other);
    }

-- A server within its ranges, after n budgets: 64 bits hold its deadline.
pub periods_few : (s : Server) (n : ℕ) → Able s → n ≤ clock_end → n * s.period.ticks ≤ clock_end * most_frame
periods_few s n able few = mul-le-mul few able.period

pub budgets_as : (s : Server) (n : ℕ) → Able s → n ≤ clock_end → budgets_on s n
    ≡ record {
      budget = s.budget;
      period = s.period;
      remaining = s.remaining;
      deadline = up_to_last (later s.deadline (ticks (n * s.period.ticks)));
      waiting = ticks (s.waiting.ticks - n * s.budget.ticks);
    }
unfolding budgets_on
budgets_as s n able few =
    ap
    (λ (d : Moment). record {
      budget = s.budget;
      period = s.period;
      remaining = s.remaining;
      deadline = d;
      waiting = ticks (s.waiting.ticks - n * s.budget.ticks);
    })
    (sym
    (up_to_last_whole (later s.deadline (ticks (n * s.period.ticks)))
    (omega (arith, able.deadline, periods_few s n able few))))

-- one budget more puts the deadline one period later
pub deadline_more : (s : Server) (n : ℕ) → Able s → n < clock_end
    → up_to_last (later (budgets_on s n).deadline s.period) ≡ (budgets_on s (suc n)).deadline
unfolding budgets_on
deadline_more s n able few =
    up_to_last_whole (moment (s.deadline.tick + n * s.period.ticks + s.period.ticks))
    (omega (arith, able.deadline, periods_few s (suc n) able (omega arith)))
    ∙ ap moment (omega arith)

-- and leaves a budget less waiting
pub waiting_more : (s : Server) (n : ℕ) → ticks ((budgets_on s n).waiting.ticks - s.budget.ticks) ≡ (budgets_on s (suc n)).waiting
unfolding budgets_on
waiting_more s n = ap ticks (omega arith)

-- there are no more budgets than ticks in them
pub budgets_few : {t i : ℕ} {s : Server} {n : ℕ} → BudgetsFrom t i s n → n ≤ clock_end
budgets_few {n = n} go = omega (arith, le-mul_of_pos_right n go.able.budget, go.time)

-- and fewer of them are no more
pub budgets_less : {t i : ℕ} {s : Server} {n : ℕ} (m : ℕ) → m ≤ n → BudgetsFrom t i s n → BudgetsFrom t i s m
budgets_less {s = s} m within go =
    record {
      place = go.place;
      able = go.able;
      time = omega (arith, mul-le-mul_right s.budget.ticks within, go.time);
      works = omega (arith, mul-le-mul_right s.budget.ticks within, go.works);
    }

-- Each budget adds one to the bound of the segments.
pub on_bounded : {most t : ℕ} {b : SegmentBook} (i : ℕ) (s : Server) (k : ℕ) → Bounded most t b
    → Bounded (most + k) (t + k * s.budget.ticks) (turned_on b t i s k)
unfolding turned_on
on_bounded i s zero by = record { from = omega (arith, by.from); counted = omega (arith, by.counted) }
on_bounded {most} {t} {b} i s (suc k) by =
    let x = turned_bounded i (budgets_on s k).deadline (on_bounded i s k by) in
    record { from = omega (arith, x.from); counted = omega (arith, x.counted) }
