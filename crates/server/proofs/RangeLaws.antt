-- Every move keeps a server's numbers within their ranges.
use Prim.Native.Nat.{◌+◌, ◌*◌, ◌≤◌}
use lib.Dec.{eqb}
use mathlib.Core.Bool.{Bool, true, false, cond}
use mathlib.Core.Logic.{inl, inr, ⊎_elim}
use mathlib.Core.Path.{◌≡◌, refl}
use native.Mathlib.Nat.{le_trans, mul-le-mul, mul-le-mul_left, mul-le-mul_right, pos_of_ne-zero}
use native.Mathlib.Omega.{arith}
use borrow.Author.Tests.{eqb-true, eqb-false}
use Rattle.booking.specs.declared.Booking.{Booking}
use Rattle.clock.specs.Clock.{last_tick, moment}
use Rattle.clock.specs.declared.Length.{Length}
use Rattle.clock.specs.declared.Moment.{Moment}
use Rattle.sizes.specs.Sizes.{clock_end, most_frame, most_waiting}
use Rattle.server.specs.declared.Server.{Server}
use Rattle.server.proofs.MoveLaws.{keeps_ahead, arrived_busy, arrived_renewed, arrived_kept}
use Rattle.server.specs.Moves.{renews, renewed, with_work, arrived, one_tick_less, postponed, spent, served}
use Rattle.server.specs.Ranges.{Ranged}
use Rattle.server.specs.Server.{fresh}

-- what lies within them at one moment does at every later one
pub ranged_later : {t u : Moment} {s : Server} → t.tick ≤ u.tick → Ranged t s → Ranged u s
ranged_later {t} {u} {s} h r =
    record {
      budget = r.budget;
      fits = r.fits;
      period = r.period;
      remaining = r.remaining;
      waiting = r.waiting;
      deadline = omega (arith, mul-le-mul_left s.period.ticks h, r.deadline);
      charged = r.charged;
    }

-- at the start
pub fresh_ranged : (b : Booking) (t : Moment) → 1 ≤ b.budget.ticks → b.budget.ticks ≤ b.period.ticks
    → b.period.ticks ≤ most_frame → Ranged t (fresh b)
fresh_ranged b t q f p =
    record {
      budget = q;
      fits = f;
      period = p;
      remaining = omega arith;
      waiting = omega arith;
      deadline = omega arith;
      charged = inr (refl, refl, refl);
    }

-- with more work, where it still fits
with_work_ranged : (s : Server) (t : Moment) (cost : Length) → Ranged t s → 1 ≤ s.remaining.ticks
    → s.waiting.ticks + cost.ticks ≤ most_waiting → Ranged t (with_work s cost)
with_work_ranged s t cost r left h =
    record {
      budget = r.budget;
      fits = r.fits;
      period = r.period;
      remaining = r.remaining;
      waiting = h;
      deadline = r.deadline;
      charged = inl left;
    }

renewed_ranged : (s : Server) (t : Moment) → Ranged t s → Ranged t (renewed s t)
renewed_ranged s t r =
    let one : 1 ≤ s.period.ticks = omega arith in
    record {
      budget = r.budget;
      fits = r.fits;
      period = r.period;
      remaining = omega arith;
      waiting = r.waiting;
      deadline = omega (arith, mul-le-mul_right t.tick one);
      charged = inl r.budget;
    }

-- a busy server has budget left, and so has one that keeps its deadline
pub busy_charged : {t : Moment} {s : Server} → Ranged t s → (s.waiting.ticks ≡ 0 → ⊥) → 1 ≤ s.remaining.ticks
busy_charged r w = ⊎_elim (λ left. left) (λ none. absurd (w none.2)) r.charged

kept_charged : {t : Moment} {s : Server} → Ranged t s → renews s t ≡ false → 1 ≤ s.remaining.ticks
kept_charged {t} {s} r k = ⊎_elim (λ left. left) (λ none. omega (arith, keeps_ahead s t k)) r.charged

-- step 1
pub arrived_ranged : (s : Server) (t : Moment) (cost : Length) → Ranged t s → s.waiting.ticks + cost.ticks ≤ most_waiting
    → Ranged t (arrived s t cost)
arrived_ranged s t cost r h = go (eqb s.waiting.ticks 0) refl (renews s t) refl
  where
    busy : (s.waiting.ticks ≡ 0 → ⊥) → Ranged t (arrived s t cost)
    busy w = rw (arrived_busy s t cost w) (with_work_ranged s t cost r (busy_charged r w) h)

    go : (i : Bool) → eqb s.waiting.ticks 0 ≡ i → (k : Bool) → renews s t ≡ k → Ranged t (arrived s t cost)
    go true i true k =
        rw (arrived_renewed s t cost (eqb-true _ _ i) k)
        (with_work_ranged (renewed s t) t cost (renewed_ranged s t r) r.budget h)
    go true i false k = rw (arrived_kept s t cost (eqb-true _ _ i) k) (with_work_ranged s t cost r (kept_charged r k) h)
    go false i true k = busy (eqb-false _ _ i)
    go false i false k = busy (eqb-false _ _ i)

-- step 3, which ends one tick later
pub served_ranged : (s : Server) (t : Moment) → Ranged t s → (s.waiting.ticks ≡ 0 → ⊥) → Ranged (moment (t.tick + 1)) (served s)
unfolding served
served_ranged s t r w = go (spent (one_tick_less s)) refl
  where
    go : (b : Bool) → spent (one_tick_less s) ≡ b → Ranged (moment (t.tick + 1)) (cond b (postponed (one_tick_less s)) (one_tick_less s))
    go true e =
        record {
          budget = r.budget;
          fits = r.fits;
          period = r.period;
          remaining = omega arith;
          waiting = omega (arith, r.waiting);
          deadline = omega (arith, r.deadline);
          charged = inl r.budget;
        }
    go false e =
        record {
          budget = r.budget;
          fits = r.fits;
          period = r.period;
          remaining = omega (arith, r.remaining);
          waiting = omega (arith, r.waiting);
          deadline = omega (arith, r.deadline);
          charged = inl (pos_of_ne-zero (eqb-false _ _ e));
        }

-- Within their ranges every deadline, and the next, fits 64 bits.
module _ {t : Moment} {s : Server} (r : Ranged t s) (h : t.tick ≤ clock_end) where
  pub deadline_below : s.deadline.tick ≤ most_frame * (clock_end + 1)
  deadline_below = le_trans r.deadline (mul-le-mul {m₂ = clock_end + 1} r.period (omega arith))

  pub deadline_fits : s.deadline.tick + s.period.ticks ≤ last_tick
  deadline_fits = omega (arith, deadline_below)
