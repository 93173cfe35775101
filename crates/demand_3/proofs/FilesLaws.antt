-- Demand 3 holds of the run of every accepted file, since that is a course of live moves from an admitted table's start.
use Prim.Native.Nat.{ℕ, zero, suc, ◌+◌, ◌-◌, ◌≤◌, ◌<◌}
use borrow.Author.Tests.{eqb-true, eq-eqb}
use lib.Dec.{eqb}
use mathlib.Core.Bool.{Bool, true, false}
use mathlib.Core.List.{List, ◌++◌}
use mathlib.Core.Logic.{inl, inr}
use mathlib.Core.Path.{◌≡◌, refl, sym, ◌∙◌, ap}
use native.Mathlib.Decide.{dec_lt}
use native.Mathlib.Nat.{le_trans}
use native.Mathlib.Omega.{arith}
use Rattle.clock.specs.Clock.{moment}
use Rattle.clock.specs.declared.Moment.{Moment}
use Rattle.counting.proofs.CountLaws.{count_empty}
use Rattle.dispatcher.proofs.PickLaws.{earliest_busy}
use Rattle.dispatcher.specs.Course.{Move, after}
use Rattle.dispatcher.specs.Moves.{tick}
use Rattle.dispatcher.specs.declared.Turn.{Turn}
use Rattle.dispatcher.specs.declared.Turn.TheVariants.{Idle, Ran}
use Rattle.dispatcher.specs.Pick.{server_at, Earliest}
use Rattle.dispatcher.specs.Start.{at_start}
use Rattle.dispatcher.specs.Within.{Within}
use Rattle.dispatcher.specs.declared.Dispatcher.{Dispatcher}
use Rattle.history.proofs.ChoiceLaws.{nobody≢given, given_deadline}
use Rattle.history.specs.Choice.{given}
use Rattle.judgement.proofs.FitLaws.{Fit, judged_fit}
use Rattle.moments.proofs.MomentLaws.{at_within, at_keeps, taken_keeps, taken_within}
use Rattle.moments.specs.Moments.{taken, at_moment, ready, turn, choice_of, history}
use Rattle.refusal.specs.Refusals.{Said, refused, gave}
use Rattle.server.specs.Server.{idle}
use Rattle.workfile.specs.Work.{Work}
use Rattle.demand_3.specs.Got.{is_under, WithinBandwidth}
use Rattle.demand_3.proofs.CourseLaws.{after_both}
use Rattle.demand_3.specs.Demand3.{Demand3}
use Rattle.demand_3.proofs.Demand3Laws.{admitted_demand_3}
use Rattle.demand_3.specs.Files.{NoWorkAt, got_from, FileDemand3, OfAcceptedFiles}
use Rattle.demand_3.proofs.MovedLaws.{arrival_waiting}
use Rattle.demand_3.proofs.RunCourseLaws.{arrivals_at, taken_course, moves_from, run_course, run_got}

-- the arrivals of a moment take no work away
taken_waiting : (w : Work) (k : ℕ) {d : Dispatcher} → Within d → (i : ℕ)
    → (server_at d i).waiting.ticks ≤ (server_at (taken w k d) i).waiting.ticks
unfolding taken
taken_waiting w zero ok i = omega arith
taken_waiting w (suc k) {d} ok i = go (eqb (w.arrival k).moment.tick d.clock.tick) refl (taken_waiting w k ok i)
  where
    go : (b : Bool) → eqb (w.arrival k).moment.tick d.clock.tick ≡ b
        → (server_at d i).waiting.ticks ≤ (server_at (taken w k d) i).waiting.ticks
        → (server_at d i).waiting.ticks ≤ (server_at (taken w (suc k) d) i).waiting.ticks
    go true e before = rw e (le_trans before (arrival_waiting (taken_within w k ok) (w.arrival k).server (w.arrival k).cost i))
    go false e before = rw e before

-- server i of a dispatcher at moment a, if it has work waiting, has its deadline ahead
abbrev pub Ahead : (i a : ℕ) → Dispatcher → Type 0
Ahead i a d = idle (server_at d i) ≡ false → a < (server_at d i).deadline.tick

module _ {w : Work} {places : ℕ} (fit : Fit w places) where
  abbrev start : Dispatcher
  start = at_start w.frame w.table

  demand : Demand3 start w.table
  demand = admitted_demand_3 w.frame w.table fit.frame_from fit.frame_to fit.servers fit.admitted

  -- where the run stands at a moment, moves from the start have led to
  at_reached : (a : ℕ) → after start (moves_from w 0 a) ≡ at_moment w a
  unfolding at_moment
  at_reached a = let same : 0 + a ≡ a = omega arith in run_course w 0 a ∙ ap (at_moment w) same

  -- those to moment a, and then its arrivals among the first k
  abbrev moves_to : (a k : ℕ) → List Move
  moves_to a k = moves_from w 0 a ++ arrivals_at w (at_moment w a).clock.tick k

  -- so with some of its arrivals taken, and once all are in
  taken_reached : (a k : ℕ) → after start (moves_to a k) ≡ taken w k (at_moment w a)
  taken_reached a k =
      after_both start (moves_from w 0 a) (arrivals_at w (at_moment w a).clock.tick k)
      ∙ ap (λ (d : Dispatcher). after d (arrivals_at w (at_moment w a).clock.tick k)) (at_reached a)
      ∙ sym (taken_course w (at_moment w a) k)

  ready_reached : (a : ℕ) → after start (moves_to a w.arrivals) ≡ ready w a
  unfolding ready
  ready_reached a = taken_reached a w.arrivals

  at_clock : (a : ℕ) → a ≤ w.horizon.tick → (at_moment w a).clock ≡ moment a
  at_clock a h = (at_keeps w a (le_trans h fit.horizon)).0

  taken_clock : (a k : ℕ) → a ≤ w.horizon.tick → (taken w k (at_moment w a)).clock ≡ moment a
  taken_clock a k h = (taken_keeps w k (at_moment w a)).0 ∙ at_clock a h

  ready_count : (a : ℕ) → a ≤ w.horizon.tick → (ready w a).count ≡ w.table.count
  unfolding ready
  ready_count a h = (taken_keeps w w.arrivals (at_moment w a)).1 ∙ (at_keeps w a (le_trans h fit.horizon)).1

  next_clock : (a : ℕ) → a < w.horizon.tick → (tick (ready w a)).dispatcher.clock ≡ moment (suc a)
  unfolding at_moment ready
  next_clock a h = at_clock (suc a) h

  -- a server that has no work after the arrivals of a has none before them
  no_work_before : (i a : ℕ) → NoWorkAt w i a → idle (server_at (at_moment w a) i) ≡ true
  unfolding ready
  no_work_before i a (inl none) = none
  no_work_before i a (inr none) =
      eq-eqb (server_at (at_moment w a) i).waiting.ticks 0
      (omega (
        arith,
        taken_waiting w w.arrivals (at_within w fit a) i,
        eqb-true (server_at (taken w w.arrivals (at_moment w a)) i).waiting.ticks 0 none,
      ))

  bounded : (i a : ℕ) → i < w.table.count → idle (server_at (at_moment w a) i) ≡ true → (b : Moment)
      → WithinBandwidth (w.table.booking i) (moment a) b (got_from w i a b)
  bounded i a known none b = go (dec_lt w.horizon.tick a)
    where
      go : Dec (w.horizon.tick < a) → WithinBandwidth (w.table.booking i) (moment a) b (got_from w i a b)
      go (yes h) =
          let over : w.horizon.tick - a ≡ 0 = omega arith in
          rw (over, count_empty (λ q. is_under i b (history w (a + q)))) (omega arith)
      go (no h) =
          let bound = (rw (at_reached a) at (demand.bandwidth (moves_from w 0 a) i known)) none b (moves_from w a (w.horizon.tick - a)) in
          rw (run_got w i b a (w.horizon.tick - a), at_clock a (omega arith)) at bound

  -- The deadline of a server with work is ahead with some of the arrivals of a moment taken,
  pub taken_ahead : (i a k : ℕ) → i < w.table.count → a ≤ w.horizon.tick → Ahead i a (taken w k (at_moment w a))
  taken_ahead i a k known h busy =
      let later = (rw (taken_reached a k) at (demand.deadlines_ahead (moves_to a k) i known)) busy in
      rw (taken_clock a k h) at later

  -- before they are,
  pub at_ahead : (i a : ℕ) → i < w.table.count → a ≤ w.horizon.tick → Ahead i a (at_moment w a)
  unfolding taken
  at_ahead i a = taken_ahead i a 0

  -- and once all are in.
  pub ready_ahead : (i a : ℕ) → i < w.table.count → a ≤ w.horizon.tick → Ahead i a (ready w a)
  unfolding ready
  ready_ahead i a = taken_ahead i a w.arrivals

  -- So the tick of a moment, which goes to the server that is picked then, ends by the deadline that it is given under.
  pub picked_in_time : (i a : ℕ) → a < w.horizon.tick → Earliest (ready w a) (ready w a).count i
      → a + 1 ≤ (server_at (ready w a) i).deadline.tick
  picked_in_time i a h first =
      omega (arith, ready_ahead i a (omega (arith, first.among, ready_count a (omega arith))) (omega arith) (earliest_busy first))

  in_time : (i a : ℕ) (deadline : Moment) → a < w.horizon.tick → (said : Said Turn) → turn w a ≡ said
      → choice_of said ≡ given i deadline → a + 1 ≤ deadline.tick
  unfolding turn
  in_time i a deadline h (refused number place) q e = absurd (nobody≢given e)
  in_time i a deadline h (gave Idle) q e = absurd (nobody≢given e)
  in_time i a deadline h (gave (Ran j under postponed)) q e =
      let later = (rw (ready_reached a) at (demand.ticks_in_time (moves_to a w.arrivals) j under postponed)) q in
      rw (sym (given_deadline e)) (omega (arith, rw (next_clock a h) at later))

  pub fit_demand_3 : FileDemand3 w
  unfolding history
  fit_demand_3 =
      record {
        bandwidth = λ i a known none b. bounded i a known (no_work_before i a none) b;
        deadlines_ahead = ready_ahead;
        ticks_in_time = λ i a deadline h e. in_time i a deadline h (turn w a) refl e;
      }

pub file_demand_3 : OfAcceptedFiles
file_demand_3 file places accepts = fit_demand_3 (judged_fit file places accepts)
