-- In the run of an accepted file no live move is refused: every arrival is taken, and every tick before the horizon is given.
use Prim.Native.Nat.{ℕ, zero, suc, ◌+◌, ◌-◌, ◌≤◌, ◌<◌}
use mathlib.Core.List.{List}
use mathlib.Core.Path.{◌≡◌, refl, sym, ◌∙◌, ap, subst}
use native.Mathlib.Decide.{dec_lt}
use native.Mathlib.Omega.{arith}
use Rattle.clock.specs.declared.Moment.{Moment}
use Rattle.dispatcher.proofs.MoveLaws.{tick_ran, tick_idle}
use Rattle.dispatcher.specs.Moves.{Answered, arrival, tick, ran}
use Rattle.dispatcher.specs.declared.Turn.{Turn}
use Rattle.dispatcher.specs.Pick.{picked}
use Rattle.dispatcher.specs.declared.Dispatcher.{Dispatcher}
use Rattle.judgement.proofs.FitLaws.{Fit, in_order_all, judged_fit}
use Rattle.judgement.specs.Judgement.{judged}
use Rattle.moments.proofs.MomentLaws.{at_keeps, taken_keeps}
use Rattle.moments.specs.Moments.{at_moment, ready, taken, turn}
use Rattle.refusal.proofs.OnPaperLaws.{refused≢gave}
use Rattle.refusal.specs.Refusals.{accepted, refused}
use Rattle.sizes.specs.Sizes.{clock_end}
use Rattle.workfile.specs.Work.{Work, work}
use Rattle.books.proofs.Travel.BeforeArrivals.{Before, stands_before}
use Rattle.books.proofs.Travel.Stands.{Stands, accepted_whole, stands_arrival}

-- a tick before the end of the clock is not refused
tick_given : (d : Dispatcher) → (d.clock.tick ≡ clock_end → ⊥) → (number place : ℕ) → (tick d).answer ≡ refused number place → ⊥
unfolding ran
tick_given d early number place e = go (dec_lt (picked d) d.count)
  where
    go : Dec (picked d < d.count) → ⊥
    go (yes some) = refused≢gave (sym e ∙ ap (λ (m : Answered Turn). m.answer) (tick_ran d early some))
    go (no none) = refused≢gave (sym e ∙ ap (λ (m : Answered Turn). m.answer) (tick_idle d early (omega arith)))

module _ {w : Work} {places : ℕ} (fit : Fit w places) where
  -- the arrivals of a moment up to arrival k, one after the other
  module _ (t k : ℕ) (now : (w.arrival k).moment.tick ≡ t) (known : k < w.arrivals) where
    end : t ≤ clock_end
    end = omega (arith, fit.in_time k known, fit.horizon)

    up_to : (n j : ℕ) (d : Dispatcher) → j + n ≡ k → Stands w t j d → (x : Dispatcher) × Stands w t k x
    up_to zero j d e s = (d, subst (λ (a : ℕ). Stands w t a d) (omega arith) s)
    up_to (suc n) j d e s =
        let here : (w.arrival j).moment.tick ≡ t
        = omega (arith, s.ahead j (omega arith) (omega arith), in_order_all fit j k (omega arith) known) in
        up_to n (suc j) (arrival d (w.arrival j).server (w.arrival j).cost).dispatcher (omega arith)
        (stands_arrival fit s end (omega arith) here)

    stands_at : (x : Dispatcher) × Stands w t k x
    stands_at = go (dec_lt k b.count)
      where
        b : Before w t
        b = stands_before fit t (omega (arith, fit.in_time k known))

        go : Dec (k < b.count) → (x : Dispatcher) × Stands w t k x
        go (yes l) = let no : ⊥ = omega (arith, b.earlier k l) in absurd no
        go (no l) = up_to (k - b.count) b.count b.dispatcher (omega arith) b.stands

    arrival_taken : (arrival (taken w k (at_moment w t)) (w.arrival k).server (w.arrival k).cost).answer ≡ accepted
    arrival_taken =
        ap (λ (x : Dispatcher). (arrival x (w.arrival k).server (w.arrival k).cost).answer) (sym stands_at.1.taken_is)
        ∙ ap (λ (m : Answered (Unit {0})). m.answer) (accepted_whole fit stands_at.1 end known now)

  turn_given : (t : ℕ) → t < w.horizon.tick → (number place : ℕ) → turn w t ≡ refused number place → ⊥
  unfolding turn ready
  turn_given t before =
      tick_given (ready w t)
      (λ e. let no : ⊥ = omega (
        arith,
        fit.horizon,
        ap (λ (m : Moment). m.tick) (taken_keeps w w.arrivals (at_moment w t)).0,
        ap (λ (m : Moment). m.tick) (at_keeps w t (omega (arith, fit.horizon))).0,
      ) in no)

-- Of an accepted file.
module _ (file : List ℕ) (places : ℕ) (e : judged file places ≡ accepted) where
  -- "The arrivals of t are taken in list order": the live move that takes arrival k accepts it.
  pub every_arrival_taken : (k : ℕ) → k < (work file).arrivals
      → (arrival (taken (work file) k (at_moment (work file) ((work file).arrival k).moment.tick)) ((work file).arrival k).server
      ((work file).arrival k).cost).answer
      ≡ accepted
  every_arrival_taken k known = arrival_taken (judged_fit file places e) _ k refl known

  -- and no tick before N is refused
  pub every_tick_given : (t : ℕ) → t < (work file).horizon.tick → (number place : ℕ) → turn (work file) t ≡ refused number place → ⊥
  every_tick_given = turn_given (judged_fit file places e)
