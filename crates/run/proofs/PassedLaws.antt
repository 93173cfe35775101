-- What the loop of `budgets::pass_each` keeps: after k turns all stands as after k budgets.
use Prim.Native.Nat.{ℕ, suc, ◌+◌, ◌-◌, ◌*◌, ◌≤◌, ◌<◌}
use lib.ListN.{length}
use mathlib.Core.Path.{◌≡◌, refl, ◌∙◌, ap, ap₂}
use native.Mathlib.Nat.{mul-le-mul_right}
use native.Mathlib.Omega.{arith}
use Rattle.books.proofs.Book.{SegmentBook, with_waits}
use Rattle.books.proofs.Budgets.BudgetLaws.{budgets_few, deadline_more, waiting_more, on_bounded}
use Rattle.books.proofs.Budgets.Budgets.{budgets_on, turned_on, BudgetsFrom}
use Rattle.books.proofs.Stretches.Turns.{turned, Bounded, MayEnd}
use Rattle.clock.proofs.ClockLaws.{up_to_last_whole}
use Rattle.clock.specs.Clock.{moment, ticks, later, up_to_last}
use Rattle.clock.specs.declared.Length.{Length}
use Rattle.clock.specs.declared.Moment.{Moment}
use Rattle.server.specs.declared.Server.{Server}
use Rattle.sizes.specs.Sizes.{clock_end}

-- all after k of n budgets
pub record Passed (b : SegmentBook) (t i : ℕ) (s : Server) (n : ℕ) (x : SegmentBook) (at deadline : Moment) (waiting : Length) (k : ℕ) : Type 0 where
  pub segments_is : x ≡ turned_on b t i s k
  pub at_is : at ≡ moment (t + k * s.budget.ticks)
  pub deadline_is : deadline ≡ (budgets_on s k).deadline
  pub waiting_is : waiting ≡ (budgets_on s k).waiting
  pub within : k ≤ n
  pub places : length x.list ≡ length b.list

module _ {b : SegmentBook} {t i : ℕ} {s : Server} {n : ℕ} where
  pub passed_none : Passed b t i s n b (moment t) s.deadline s.waiting 0
  unfolding turned_on budgets_on
  passed_none =
      record {
        segments_is = refl;
        at_is = ap moment (omega arith);
        deadline_is = ap moment (omega arith);
        waiting_is = ap ticks (omega arith);
        within = omega arith;
        places = refl;
      }

  module _ {x : SegmentBook} {at deadline : Moment} {waiting : Length} {k : ℕ} (may : BudgetsFrom t i s n) (by : Bounded (clock_end + 1) t b)
      (p : Passed b t i s n x at deadline waiting k) (more : k < n) where
    -- one budget more is within the work and the time
    next_within : suc k * s.budget.ticks ≤ n * s.budget.ticks
    next_within = mul-le-mul_right s.budget.ticks (omega arith)

    pub enough : s.budget.ticks ≤ waiting.ticks
    unfolding budgets_on
    enough = omega (arith, next_within, ap (λ (l : Length). l.ticks) p.waiting_is, may.works)

    bounded : Bounded (clock_end + 1 + k) (t + k * s.budget.ticks) (turned_on b t i s k)
    bounded = on_bounded i s k by

    pub may_end : MayEnd at.tick x.current
    may_end =
        record {
          from =
              omega (
                arith,
                ap (λ (m : Moment). m.tick) p.at_is,
                ap (λ (y : SegmentBook). y.current.start.tick) p.segments_is,
                bounded.from,
              );
          counted = omega (arith, ap (λ (y : SegmentBook). y.current.count) p.segments_is, bounded.counted, budgets_few may);
        }

    pub passed_more : {y : SegmentBook} {at' deadline' : Moment} {waiting' : Length} → y ≡ turned x at.tick i deadline
        → waiting' ≡ ticks (waiting.ticks - s.budget.ticks) → at' ≡ up_to_last (later at s.budget)
        → deadline' ≡ up_to_last (later deadline s.period) → length y.list ≡ length x.list
        → Passed b t i s n (with_waits y waiting') at' deadline' waiting' (suc k)
    unfolding turned_on
    passed_more {y} {at'} {deadline'} {waiting'} turns lessens goes shows same =
        record {
          segments_is =
              ap₂ with_waits
              (turns
              ∙ ap₂ (λ (z : SegmentBook) (u : Moment). turned z u.tick i deadline) p.segments_is p.at_is
              ∙ ap (turned (turned_on b t i s k) (t + k * s.budget.ticks) i) p.deadline_is)
              left;
          at_is =
              goes
              ∙ ap (λ (u : Moment). up_to_last (later u s.budget)) p.at_is
              ∙ up_to_last_whole (moment (t + k * s.budget.ticks + s.budget.ticks)) (omega (arith, next_within, may.time))
              ∙ ap moment (omega arith);
          deadline_is =
              shows
              ∙ ap (λ (d : Moment). up_to_last (later d s.period)) p.deadline_is
              ∙ deadline_more s k may.able (omega (arith, budgets_few may));
          waiting_is = left;
          within = omega arith;
          places = same ∙ p.places;
        }
      where
        left : waiting' ≡ (budgets_on s (suc k)).waiting
        left = lessens ∙ ap (λ (l : Length). ticks (l.ticks - s.budget.ticks)) p.waiting_is ∙ waits_more
          where
            waits_more : ticks ((budgets_on s k).waiting.ticks - s.budget.ticks) ≡ (budgets_on s (suc k)).waiting
            waits_more = waiting_more s k
