-- The run of a work is a course of live moves: at each moment its arrivals, and then a tick.
use Prim.Native.Nat.{ℕ, zero, suc, ◌+◌}
use lib.Dec.{eqb}
use mathlib.Core.Bool.{Bool, true, false, cond}
use mathlib.Core.List.{List, [], ◌∷◌, ◌++◌, append-nil}
use mathlib.Core.Path.{◌≡◌, refl, sym, ◌∙◌, ap, ap₂}
use native.Mathlib.Nat.{add-suc, add-zero}
use native.Mathlib.Omega.{arith}
use Rattle.clock.specs.declared.Moment.{Moment}
use Rattle.counting.specs.Count.{count}
use Rattle.dispatcher.specs.Course.{Move, an_arrival, a_tick, after}
use Rattle.dispatcher.specs.Moves.{arrival, tick}
use Rattle.dispatcher.specs.declared.Dispatcher.{Dispatcher}
use Rattle.moments.specs.Moments.{taken, at_moment, ready, turn, choice_of, history}
use Rattle.workfile.specs.Work.{Work}
use Rattle.demand_3.specs.Got.{is_under, got}
use Rattle.demand_3.proofs.CourseLaws.{under_nobody, after_both, got_both}

module _ (w : Work) where
  -- the arrivals at moment t among the first k
  pub arrivals_at : ℕ → ℕ → List Move
  arrivals_at t zero = []
  arrivals_at t (suc k) =
      arrivals_at t k ++ cond (eqb (w.arrival k).moment.tick t) (an_arrival (w.arrival k).server (w.arrival k).cost ∷ []) []

  pub taken_course : (d : Dispatcher) (k : ℕ) → taken w k d ≡ after d (arrivals_at d.clock.tick k)
  unfolding taken after arrivals_at
  taken_course d zero = refl
  taken_course d (suc k) = go (eqb (w.arrival k).moment.tick d.clock.tick) (taken_course d k)
    where
      go : (b : Bool) → taken w k d ≡ after d (arrivals_at d.clock.tick k)
          → cond b (arrival (taken w k d) (w.arrival k).server (w.arrival k).cost).dispatcher (taken w k d)
          ≡ after d (arrivals_at d.clock.tick k ++ cond b (an_arrival (w.arrival k).server (w.arrival k).cost ∷ []) [])
      go true so =
          ap (λ (e : Dispatcher). (arrival e (w.arrival k).server (w.arrival k).cost).dispatcher) so
          ∙ sym (after_both d (arrivals_at d.clock.tick k) _)
      go false so = so ∙ ap (after d) (sym (append-nil (arrivals_at d.clock.tick k)))

  -- no tick is given by them
  arrivals_got : (i : ℕ) (b : Moment) (d : Dispatcher) (t k : ℕ) → got i b d (arrivals_at t k) ≡ 0
  unfolding got arrivals_at
  arrivals_got i b d t zero = refl
  arrivals_got i b d t (suc k) = go (eqb (w.arrival k).moment.tick t) (arrivals_got i b d t k)
    where
      go : (e : Bool) → got i b d (arrivals_at t k) ≡ 0
          → got i b d (arrivals_at t k ++ cond e (an_arrival (w.arrival k).server (w.arrival k).cost ∷ []) []) ≡ 0
      go true so =
          got_both i b d (arrivals_at t k) (an_arrival (w.arrival k).server (w.arrival k).cost ∷ [])
          ∙ rw (so, under_nobody i b)
      go false so = ap (got i b d) (append-nil (arrivals_at t k)) ∙ so

  -- all arrivals of moment a
  arrivals_of : ℕ → List Move
  arrivals_of a = arrivals_at (at_moment w a).clock.tick w.arrivals

  -- the moves of moment a
  abbrev moves_of : ℕ → List Move
  moves_of a = arrivals_of a ++ a_tick ∷ []

  ready_course : (a : ℕ) → ready w a ≡ after (at_moment w a) (arrivals_of a)
  unfolding ready arrivals_of
  ready_course a = taken_course (at_moment w a) w.arrivals

  -- those of the k moments from a on
  pub moves_from : ℕ → ℕ → List Move
  moves_from a zero = []
  moves_from a (suc k) = moves_from a k ++ moves_of (a + k)

  moment_course : (a : ℕ) → after (at_moment w a) (moves_of a) ≡ at_moment w (suc a)
  unfolding at_moment ready after
  moment_course a =
      after_both (at_moment w a) (arrivals_of a) (a_tick ∷ []) ∙ ap (λ (e : Dispatcher). (tick e).dispatcher) (sym (ready_course a))

  pub run_course : (a k : ℕ) → after (at_moment w a) (moves_from a k) ≡ at_moment w (a + k)
  unfolding moves_from after
  run_course a zero = ap (at_moment w) (sym (add-zero a))
  run_course a (suc k) =
      after_both (at_moment w a) (moves_from a k) (moves_of (a + k))
      ∙ ap (λ (e : Dispatcher). after e (moves_of (a + k))) (run_course a k)
      ∙ moment_course (a + k)
      ∙ ap (at_moment w) (sym (add-suc a k))

  -- the ticks of the course are those of the history
  moment_got : (i : ℕ) (b : Moment) (a : ℕ) → got i b (at_moment w a) (moves_of a) ≡ cond (is_under i b (history w a)) 1 0
  unfolding history turn ready got after arrivals_of
  moment_got i b a =
      got_both i b (at_moment w a) (arrivals_of a) (a_tick ∷ [])
      ∙ ap₂ ◌+◌ (arrivals_got i b (at_moment w a) (at_moment w a).clock.tick w.arrivals)
      (add-zero _ ∙ ap (λ (e : Dispatcher). cond (is_under i b (choice_of (tick e).answer)) 1 0) (sym (ready_course a)))
      ∙ omega arith

  pub run_got : (i : ℕ) (b : Moment) (a k : ℕ)
      → got i b (at_moment w a) (moves_from a k) ≡ count k (λ q. is_under i b (history w (a + q)))
  unfolding moves_from got count
  run_got i b a zero = refl
  run_got i b a (suc k) =
      got_both i b (at_moment w a) (moves_from a k) (moves_of (a + k))
      ∙ ap₂ ◌+◌ (run_got i b a k)
      (ap (λ (e : Dispatcher). got i b e (moves_of (a + k))) (run_course a k) ∙ moment_got i b (a + k))
