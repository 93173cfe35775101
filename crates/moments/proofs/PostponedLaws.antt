-- The postponements of ticks that go in one step, and what the history has of them.
use Prim.Native.Nat.{ℕ, suc, ◌+◌, ◌-◌, ◌≤◌, ◌<◌}
use borrow.Author.Tests.{eq-eqb, ne_eqb}
use lib.Dec.{eqb}
use mathlib.Core.Bool.{false}
use mathlib.Core.Path.{◌≡◌, ◌∙◌, ap}
use native.Mathlib.Decide.{ℕ_discrete}
use native.Mathlib.Nat.{add-suc}
use native.Mathlib.Omega.{arith}
use Rattle.clock.specs.declared.Moment.{Moment}
use Rattle.counting.proofs.CountLaws.{count_empty, count_hit, count_le, count_none}
use Rattle.counting.specs.Count.{count}
use Rattle.dispatcher.specs.declared.Turn.TheVariants.{Idle, Ran}
use Rattle.history.specs.Choice.{nobody, given}
use Rattle.judgement.proofs.FitLaws.{Fit}
use Rattle.refusal.specs.Refusals.{gave}
use Rattle.workfile.specs.Work.{Work}
use Rattle.moments.proofs.ToldLaws.{own_told, other_not, idle_not}
use Rattle.moments.specs.Moments.{turn, choice_of, history, postpones, postponed_by}

pub postponed_start : (w : Work) (i : ℕ) → postponed_by w i 0 ≡ 0
unfolding postponed_by
postponed_start w i = count_empty (postpones w i)

-- there are no more than ticks
pub postponed_le : (w : Work) (i t : ℕ) → postponed_by w i t ≤ t
unfolding postponed_by
postponed_le w i t = count_le t (postpones w i)

-- k + 1 ticks of server i with c of its budget left
module _ (w : Work) (t i k c : ℕ) (d : Moment)
    (turns : (q : ℕ) → q < suc k → turn w (t + q) ≡ gave (Ran i d (eqb (c - suc q) 0))) where
  pub history_ran : (q : ℕ) → q < suc k → history w (t + q) ≡ given i d
  unfolding history
  history_ran q b = ap choice_of (turns q b)

  module _ {places : ℕ} (fit : Fit w places) where
    -- none but the last postpones
    early : (j q : ℕ) → suc q < c → q < suc k → postpones w j (t + q) ≡ false
    early j q l b = go (ℕ_discrete j i)
      where
        go : Dec (j ≡ i) → postpones w j (t + q) ≡ false
        go (yes e) = rw e (own_told fit (t + q) (turns q b) ∙ ne_eqb (c - suc q) 0 (omega arith))
        go (no n) = other_not fit (t + q) (turns q b) j n

    pub postponed_not : suc k < c → (j : ℕ) → postponed_by w j (t + suc k) ≡ postponed_by w j t
    unfolding postponed_by
    postponed_not less j = count_none t (suc k) (postpones w j) (λ q b. early j q (omega arith) b)

    pub postponed_other : (j : ℕ) → (j ≡ i → ⊥) → postponed_by w j (t + suc k) ≡ postponed_by w j t
    unfolding postponed_by
    postponed_other j n = count_none t (suc k) (postpones w j) (λ q b. other_not fit (t + q) (turns q b) j n)

    -- and it does where the budget is spent
    pub postponed_own : suc k ≡ c → postponed_by w i (t + suc k) ≡ postponed_by w i t + 1
    unfolding postponed_by
    postponed_own e =
        ap (λ (u : ℕ). count u (postpones w i)) (add-suc t k)
        ∙ count_hit (t + k) (postpones w i) (own_told fit (t + k) (turns k (omega arith)) ∙ eq-eqb (c - suc k) 0 (omega arith))
        ∙ ap (λ (n : ℕ). n + 1) (count_none t k (postpones w i) (λ q b. early i q (omega arith) (omega arith)))

-- idle ticks
module _ (w : Work) (t k : ℕ) (turns : (q : ℕ) → q < k → turn w (t + q) ≡ gave Idle) where
  pub history_idle : (q : ℕ) → q < k → history w (t + q) ≡ nobody
  unfolding history
  history_idle q b = ap choice_of (turns q b)

  pub postponed_idle : {places : ℕ} → Fit w places → (j : ℕ) → postponed_by w j (t + k) ≡ postponed_by w j t
  unfolding postponed_by
  postponed_idle fit j = count_none t k (postpones w j) (λ q b. idle_not fit (t + q) (turns q b) j)
