-- Where a run stands: the clock, the count of servers and the ranges at every moment, and the arrivals of a moment one after the other.
use Prim.Native.Nat.{ℕ, zero, suc, ◌+◌, ◌-◌, ◌≤◌, ◌<◌}
use borrow.Author.Tests.{eq-eqb, ne_eqb}
use lib.Dec.{eqb, ltb}
use mathlib.Core.Bool.{Bool, true, false}
use mathlib.Core.Path.{◌≡◌, refl, sym, ◌∙◌, ap}
use native.Mathlib.Nat.{add-suc, add-zero, add-sub_of_le}
use native.Mathlib.Omega.{arith}
use Rattle.arrival.specs.Arrival.{faulty_arrival}
use Rattle.clock.specs.Clock.{moment}
use Rattle.clock.specs.declared.Length.{Length}
use Rattle.clock.specs.declared.Moment.{Moment}
use Rattle.dispatcher.proofs.MoveLaws.{arrival_within, tick_within}
use Rattle.dispatcher.proofs.StartLaws.{admitted_within}
use Rattle.dispatcher.specs.Moves.{arrival, tick, ran, too_much_work}
use Rattle.dispatcher.specs.Pick.{picked}
use Rattle.dispatcher.specs.Start.{at_start}
use Rattle.dispatcher.specs.Within.{Within}
use Rattle.dispatcher.specs.declared.Dispatcher.{Dispatcher}
use Rattle.judgement.proofs.FitLaws.{Fit}
use Rattle.sizes.specs.Sizes.{clock_end}
use Rattle.workfile.specs.Work.{Work}
use Rattle.moments.specs.Moments.{taken, at_moment}

-- an arrival leaves the clock and the count of servers
module _ (d : Dispatcher) (i : ℕ) (cost : Length) where
  pub arrival_keeps : ((arrival d i cost).dispatcher.clock ≡ d.clock) × ((arrival d i cost).dispatcher.count ≡ d.count)
  unfolding arrival
  arrival_keeps = go (faulty_arrival d.count i cost) refl (too_much_work d i cost) refl
    where
      go : (f : Bool) → faulty_arrival d.count i cost ≡ f → (o : Bool) → too_much_work d i cost ≡ o
          → ((arrival d i cost).dispatcher.clock ≡ d.clock) × ((arrival d i cost).dispatcher.count ≡ d.count)
      go true f o e = (rw f, rw f)
      go false f true e = (rw (f, e), rw (f, e))
      go false f false e = (rw (f, e), rw (f, e))

-- a tick before the clock's end moves it on by one, and leaves the count
tick_keeps : (d : Dispatcher) → d.clock.tick < clock_end
    → ((tick d).dispatcher.clock ≡ moment (suc d.clock.tick)) × ((tick d).dispatcher.count ≡ d.count)
unfolding tick ran
tick_keeps d h = go (ltb (picked d) d.count) refl
  where
    go : (p : Bool) → ltb (picked d) d.count ≡ p
        → ((tick d).dispatcher.clock ≡ moment (suc d.clock.tick)) × ((tick d).dispatcher.count ≡ d.count)
    go true q = (
      rw (ne_eqb d.clock.tick clock_end (λ e. omega arith), q) (ap moment (omega arith)),
      rw
          (ne_eqb d.clock.tick clock_end (λ e. omega arith), q),
    )
    go false q = (
      rw (ne_eqb d.clock.tick clock_end (λ e. omega arith), q) (ap moment (omega arith)),
      rw
          (ne_eqb d.clock.tick clock_end (λ e. omega arith), q),
    )

module _ (w : Work) where
  -- one arrival after the other
  pub taken_more : (k : ℕ) (d : Dispatcher) → (w.arrival k).moment.tick ≡ d.clock.tick
      → taken w (suc k) d ≡ (arrival (taken w k d) (w.arrival k).server (w.arrival k).cost).dispatcher
  unfolding taken
  taken_more k d e = rw (eq-eqb _ _ e)

  taken_skips : (k : ℕ) (d : Dispatcher) → ((w.arrival k).moment.tick ≡ d.clock.tick → ⊥) → taken w (suc k) d ≡ taken w k d
  unfolding taken
  taken_skips k d n = rw (ne_eqb _ _ n)

  -- those behind the first j are none of this moment
  taken_rest_by : (j r : ℕ) (d : Dispatcher)
      → ((a : ℕ) → j ≤ a → a < j + r → (w.arrival a).moment.tick ≡ d.clock.tick → ⊥) → taken w (j + r) d ≡ taken w j d
  taken_rest_by j zero d none = ap (λ (k : ℕ). taken w k d) (add-zero j)
  taken_rest_by j (suc r) d none =
      ap (λ (k : ℕ). taken w k d) (add-suc j r)
      ∙ taken_skips (j + r) d (none (j + r) (omega arith) (omega arith))
      ∙ taken_rest_by j r d (λ a l b. none a l (omega arith))

  pub taken_rest : (j k : ℕ) (d : Dispatcher) → j ≤ k → ((a : ℕ) → j ≤ a → a < k → (w.arrival a).moment.tick ≡ d.clock.tick → ⊥)
      → taken w k d ≡ taken w j d
  taken_rest j k d le none =
      ap (λ (n : ℕ). taken w n d) (sym (add-sub_of_le le)) ∙ taken_rest_by j (k - j) d (λ a l b. none a l (omega arith))

  pub taken_keeps : (k : ℕ) (d : Dispatcher) → ((taken w k d).clock ≡ d.clock) × ((taken w k d).count ≡ d.count)
  unfolding taken
  taken_keeps zero d = (refl, refl)
  taken_keeps (suc k) d = go (eqb (w.arrival k).moment.tick d.clock.tick) refl (taken_keeps k d)
    where
      go : (b : Bool) → eqb (w.arrival k).moment.tick d.clock.tick ≡ b
          → ((taken w k d).clock ≡ d.clock) × ((taken w k d).count ≡ d.count)
          → ((taken w (suc k) d).clock ≡ d.clock) × ((taken w (suc k) d).count ≡ d.count)
      go true e before = (
        rw e ((arrival_keeps (taken w k d) (w.arrival k).server (w.arrival k).cost).0 ∙ before.0),
        rw e
            ((arrival_keeps (taken w k d) (w.arrival k).server (w.arrival k).cost).1 ∙ before.1),
      )
      go false e before = (rw e before.0, rw e before.1)

  pub taken_within : (k : ℕ) {d : Dispatcher} → Within d → Within (taken w k d)
  unfolding taken
  taken_within zero ok = ok
  taken_within (suc k) {d} ok = go (eqb (w.arrival k).moment.tick d.clock.tick) refl (taken_within k ok)
    where
      go : (b : Bool) → eqb (w.arrival k).moment.tick d.clock.tick ≡ b → Within (taken w k d) → Within (taken w (suc k) d)
      go true e before = rw e (arrival_within before (w.arrival k).server (w.arrival k).cost)
      go false e before = rw e before

  -- The run of an accepted work.
  module _ {places : ℕ} (fit : Fit w places) where
    pub at_within : (t : ℕ) → Within (at_moment w t)
    unfolding at_moment
    at_within zero =
        admitted_within w.frame w.table fit.frame_from fit.frame_to fit.servers fit.admitted
    at_within (suc t) = tick_within (taken_within w.arrivals (at_within t))

  pub at_keeps : (t : ℕ) → t ≤ clock_end → ((at_moment w t).clock ≡ moment t) × ((at_moment w t).count ≡ w.table.count)
  unfolding at_moment at_start
  at_keeps zero le = (refl, refl)
  at_keeps (suc t) le = go (at_keeps t (omega arith)) (taken_keeps w.arrivals (at_moment w t))
    where
      go : ((at_moment w t).clock ≡ moment t) × ((at_moment w t).count ≡ w.table.count)
          → ((taken w w.arrivals (at_moment w t)).clock ≡ (at_moment w t).clock) ×
          ((taken w w.arrivals (at_moment w t)).count ≡ (at_moment w t).count)
          → ((at_moment w (suc t)).clock ≡ moment (suc t)) × ((at_moment w (suc t)).count ≡ w.table.count)
      go before took =
          let clock : (taken w w.arrivals (at_moment w t)).clock ≡ moment t = took.0 ∙ before.0 in
          let moved = tick_keeps (taken w w.arrivals (at_moment w t)) (rw clock (omega arith)) in
          (moved.0 ∙ ap (λ (m : Moment). moment (suc m.tick)) clock, moved.1 ∙ took.1 ∙ before.1)
