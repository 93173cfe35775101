-- The run stands at every moment with the earlier arrivals taken, and none of that moment.
use Prim.Native.Nat.{ℕ, zero, suc, ◌+◌, ◌≤◌, ◌<◌}
use borrow.Author.Tests.{eqb-false}
use mathlib.Core.Path.{◌≡◌, ◌∙◌, ap, subst}
use native.Mathlib.Decide.{dec_lt, ℕ_discrete}
use native.Mathlib.Nat.{not-suc-le-zero, pos_of_ne-zero}
use native.Mathlib.Numerals.{add-one}
use native.Mathlib.Omega.{arith}
use Rattle.clock.specs.declared.Moment.{Moment}
use Rattle.dispatcher.proofs.PickLaws.{earliest_busy, earliest_charged, picked_earliest, picked_none}
use Rattle.dispatcher.specs.Moves.{arrival}
use Rattle.dispatcher.specs.Pick.{picked, Earliest}
use Rattle.dispatcher.specs.declared.Dispatcher.{Dispatcher}
use Rattle.judgement.proofs.FitLaws.{Fit, in_order_all}
use Rattle.moments.proofs.MomentLaws.{taken_rest, at_keeps}
use Rattle.moments.specs.Moments.{taken, at_moment}
use Rattle.sizes.specs.Sizes.{clock_end}
use Rattle.workfile.specs.Work.{Work}
use Rattle.books.proofs.Travel.Events.{event_stands, idle_stands}
use Rattle.books.proofs.Travel.Stands.{NoneBefore, Stands, stands_start, stands_within, stands_arrival}

-- the run stands at moment t, and none of its arrivals is taken yet
pub record Before (w : Work) (t : ℕ) : Type 0 where
  pub count : ℕ
  pub dispatcher : Dispatcher
  pub stands : Stands w t count dispatcher
  pub earlier : (a : ℕ) → a < count → (w.arrival a).moment.tick < t

module _ {w : Work} {places : ℕ} (fit : Fit w places) where
  -- From one moment to the next.
  module _ (t : ℕ) (within : t < w.horizon.tick) where
    end : t + 1 ≤ clock_end
    end = omega (arith, fit.horizon)

    -- the tick of t, all arrivals of t being taken
    module _ {j : ℕ} {d : Dispatcher} (s : Stands w t j d)
        (later : NoneBefore w j (suc t)) where
      stands_next : {e : Dispatcher} → Stands w (t + 1) j e → Before w (suc t)
      stands_next {e} next =
          record {
            count = j;
            dispatcher = e;
            stands = subst (λ (u : ℕ). Stands w u j e) (add-one t) next;
            earlier = λ a b. omega (arith, s.past a b);
          }

      ahead : NoneBefore w j (t + 1)
      ahead a l b = omega (arith, later a l b)

      tick_given : Before w (suc t)
      tick_given = go (dec_lt (picked d) d.count)
        where
          go : Dec (picked d < d.count) → Before w (suc t)
          go (yes some) =
              let earliest : Earliest d d.count (picked d) = picked_earliest d some in
              stands_next
              (event_stands fit s 0 end ahead (picked d) earliest
              (earliest_charged (stands_within fit s (omega (arith, end))) earliest)
              (pos_of_ne-zero (eqb-false _ _ (earliest_busy earliest))))
          go (no none) = stands_next (idle_stands fit s 0 end ahead (picked_none d (omega arith)))

    -- the arrivals of t, no more than n being left, and then the tick
    moment_done : (n j : ℕ) (d : Dispatcher) → Stands w t j d → w.arrivals ≤ j + n → Before w (suc t)
    moment_done zero j d s left = tick_given s (λ a l b. let no : ⊥ = omega arith in absurd no)
    moment_done (suc n) j d s left = go (dec_lt j w.arrivals) (moment_done n (suc j))
      where
        go : Dec (j < w.arrivals) → ((e : Dispatcher) → Stands w t (suc j) e → w.arrivals ≤ suc j + n → Before w (suc t))
            → Before w (suc t)
        go (no none) rest = tick_given s (λ a l b. let no : ⊥ = omega arith in absurd no)
        go (yes more) rest = of (ℕ_discrete (w.arrival j).moment.tick t)
          where
            of : Dec ((w.arrival j).moment.tick ≡ t) → Before w (suc t)
            of (yes now) =
                rest (arrival d (w.arrival j).server (w.arrival j).cost).dispatcher
                (stands_arrival fit s (omega (arith, end)) more now)
                (omega arith)
            of (no other) =
                tick_given s (λ a l b. omega (arith, other, s.ahead j (omega arith) more, in_order_all fit j a l b))

  -- so the run comes to every moment up to the horizon
  pub stands_before : (t : ℕ) → t ≤ w.horizon.tick → Before w t
  stands_before zero le =
      record {
        count = 0;
        dispatcher = at_moment w 0;
        stands = stands_start w;
        earlier = λ a b. absurd (not-suc-le-zero b);
      }
  stands_before (suc t) le =
      let b : Before w t = stands_before t (omega arith) in
      moment_done t le w.arrivals b.count b.dispatcher b.stands (omega arith)

  -- there the dispatcher is still the one of that moment
  pub before_is : {t : ℕ} → t ≤ w.horizon.tick → (b : Before w t) → b.dispatcher ≡ at_moment w t
  unfolding taken
  before_is {t} le b =
      b.stands.taken_is
      ∙ taken_rest w 0 b.count (at_moment w t) (omega arith)
      (λ a l c e. omega (arith, b.earlier a c, ap (λ (m : Moment). m.tick) (at_keeps w t (omega (arith, fit.horizon))).0))
