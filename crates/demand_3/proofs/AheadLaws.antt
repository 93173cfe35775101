-- Deadlines ahead: at every moment t and for every b, what all servers together can still get under deadlines no later than b is at most the
-- ticks from t to b, times the frame. Admission gives it at the start, and every move keeps it. A server with work and a deadline that
-- has come would break it.
use Prim.Native.Nat.{ℕ, ◌+◌, ◌-◌, ◌*◌, ◌≤◌, ◌<◌}
use borrow.Author.Tests.{le-leb}
use mathlib.Core.Bool.{Bool, true, false}
use mathlib.Core.List.{List, [], ◌∷◌}
use mathlib.Core.Logic.{inl, inr}
use mathlib.Core.Path.{◌≡◌, refl, sym, ◌∙◌, ap}
use native.Mathlib.Decide.{dec_lt}
use native.Mathlib.Nat.{le_trans, mul-le-mul_left}
use native.Mathlib.Omega.{arith}
use Rattle.booking.proofs.AdmissionLaws.{Admitted}
use Rattle.booking.specs.Admission.{Table}
use Rattle.booking.specs.Share.{share}
use Rattle.clock.specs.Clock.{later, ticks, until}
use Rattle.clock.specs.declared.Length.{Length}
use Rattle.clock.specs.declared.Moment.{Moment}
use Rattle.counting.proofs.SumLaws.{sum_mono, sum_falls, sum_at, sum_times}
use Rattle.counting.proofs.TestLaws.{not_both}
use Rattle.counting.specs.Sum.{sum}
use Rattle.dispatcher.proofs.PickLaws.{earliest_busy}
use Rattle.dispatcher.specs.Course.{Move, an_arrival, a_tick, after}
use Rattle.dispatcher.specs.Moves.{arrival, tick}
use Rattle.dispatcher.specs.Pick.{server_at}
use Rattle.dispatcher.specs.declared.Dispatcher.{Dispatcher}
use Rattle.history.proofs.ChoiceLaws.{nobody≢given, given_deadline}
use Rattle.history.specs.Choice.{given}
use Rattle.moments.proofs.MomentLaws.{arrival_keeps}
use Rattle.moments.specs.Moments.{choice_of}
use Rattle.server.proofs.PassedOverLaws.{busy_not_passed_over}
use Rattle.server.proofs.Potential.{Rests, HasBudgetOrRests, own_share, potential}
use Rattle.server.proofs.PotentialLaws.{owed_reached, owed_beyond, potential_busy, rests_potential, served_beyond}
use Rattle.server.specs.Server.{idle, passed_over}
use Rattle.server.specs.declared.Server.{Server}
use Rattle.demand_3.proofs.BandwidthLaws.{can_get, arrival_pays, tick_pays}
use Rattle.demand_3.proofs.CourseLaws.{under_own}
use Rattle.demand_3.proofs.MovedLaws.{TickCase, refused_tick, idle_tick, given_tick, TickServer, leaves, serves, tick_cases, tick_server}
use Rattle.demand_3.proofs.StandingLaws.{Standing, standing_booked, standing_rests, arrival_standing, tick_standing}

-- for every b the ticks from now to b cover what all servers can still get; and a server without budget rests
pub record Covered (H : Length) (t : Table) (d : Dispatcher) : Type 0 where
  pub standing : Standing t d
  pub covers : (b : Moment) → sum t.count (can_get H b d) ≤ (until d.clock b).ticks * H.ticks
  pub rests : (i : ℕ) → i < t.count → HasBudgetOrRests d.clock (server_at d i)

module _ {H : Length} {t : Table} (some : 1 ≤ H.ticks) (admitted : Admitted H t) where
  -- a server's share from a moment on
  abbrev share_from : Moment → Moment → ℕ → ℕ
  share_from now b i = (until now b).ticks * (share H (t.booking i)).ticks

  -- where no server can get more than its share, the shares of an admitted table are enough
  shares_cover : (now b : Moment) (f : ℕ → ℕ) → ((i : ℕ) → i < t.count → f i ≤ share_from now b i)
      → sum t.count f ≤ (until now b).ticks * H.ticks
  shares_cover now b f each =
      le_trans (sum_mono t.count f (share_from now b) each)
      (rw (sum_times t.count (until now b).ticks (λ i. (share H (t.booking i)).ticks))
      (mul-le-mul_left (until now b).ticks admitted.within))

  -- a server that rests can get no more
  rests_share : {d : Dispatcher} → Standing t d → (now b : Moment) (i : ℕ) → i < t.count → Rests now (server_at d i)
      → potential H now b (server_at d i) ≤ share_from now b i
  rests_share ok now b i known rests =
      rw (sym (ok.bookings i known)) (rests_potential H (standing_booked admitted ok i known) now b rests)

  -- where all rest, all is covered
  pub resting_covered : {d : Dispatcher} → Standing t d → ((i : ℕ) → i < t.count → Rests d.clock (server_at d i)) → Covered H t d
  resting_covered {d} ok rests =
      record {
        standing = ok;
        covers = λ b. shares_cover d.clock b (can_get H b d) (λ i known. rests_share ok d.clock b i known (rests i known));
        rests = standing_rests ok;
      }

  -- an arrival keeps it
  arrival_covered : {d : Dispatcher} → Covered H t d → (j : ℕ) (cost : Length) → Covered H t (arrival d j cost).dispatcher
  arrival_covered {d} ok j cost =
      let standing : Standing t (arrival d j cost).dispatcher = arrival_standing ok.standing j cost in
      record {
        standing = standing;
        covers = λ b.
            le_trans (sum_mono t.count (can_get H b (arrival d j cost).dispatcher) (can_get H b d)
            (λ i known. arrival_pays admitted b ok.standing j cost i known))
            (rw (arrival_keeps d j cost).0 (ok.covers b));
        rests = standing_rests standing;
      }

  -- A tick keeps it.
  module _ {d : Dispatcher} (ok : Covered H t d) (b : Moment) where
    abbrev next : Dispatcher
    next = (tick d).dispatcher

    abbrev CoversNext : Type 0
    CoversNext = sum t.count (can_get H b next) ≤ (until next.clock b).ticks * H.ticks

    -- what has fallen by the frame is covered by one tick less
    one_less : (now all : ℕ) → all + H.ticks ≤ (b.tick - now) * H.ticks → all ≤ (b.tick - (now + 1)) * H.ticks
    one_less now all h = go (dec_lt now b.tick)
      where
        go : Dec (now < b.tick) → all ≤ (b.tick - (now + 1)) * H.ticks
        go (yes q) =
            let one : b.tick - now ≡ 1 + (b.tick - (now + 1)) = omega arith in
            omega (arith, ap (λ (x : ℕ). x * H.ticks) one)
        go (no q) =
            let none : b.tick - now ≡ 0 = omega arith in
            let no : ⊥ = omega (arith, ap (λ (x : ℕ). x * H.ticks) none) in
            absurd no

    -- a tick that is given under a deadline no later than b is paid for
    paid_covers : (p : ℕ) → p < t.count → next.clock ≡ later d.clock (ticks 1)
        → choice_of (tick d).answer ≡ given p (server_at d p).deadline → (server_at d p).deadline.tick ≤ b.tick → CoversNext
    paid_covers p known clock choice h =
        rw clock
        (one_less d.clock.tick _
        (le_trans
        (sum_falls t.count H.ticks p (can_get H b next) (can_get H b d)
        (λ i q. omega (arith, tick_pays admitted b ok.standing i q))
        known
        (rw (choice, under_own p b (server_at d p).deadline, le-leb _ _ h) at (tick_pays admitted b ok.standing p known)))
        (ok.covers b)))

    -- where every server that is not passed over has a later deadline, each server can get no more than its share
    abbrev AllBeyond : Type 0
    AllBeyond = (i : ℕ) → i < t.count → passed_over (server_at d i) ≡ false → b.tick < (server_at d i).deadline.tick

    beyond_covers : AllBeyond → CoversNext
    beyond_covers beyond = shares_cover next.clock b (can_get H b next) (λ i known. each i known (tick_server ok.standing.within i))
      where
        standing : Standing t next
        standing = tick_standing ok.standing

        left : (i : ℕ) → i < t.count → server_at next i ≡ server_at d i → HasBudgetOrRests next.clock (server_at next i)
            → (w : Bool) → idle (server_at next i) ≡ w → can_get H b next i ≤ share_from next.clock b i
        left i known same (inr rests) w e = rests_share standing next.clock b i known rests
        left i known same (inl budget) true e = rests_share standing next.clock b i known (inl e)
        left i known same (inl budget) false e =
            let later = beyond i known (ap passed_over (sym same) ∙ busy_not_passed_over (server_at next i) e budget) in
            rw (potential_busy H (server_at next i) next.clock b e, owed_beyond H b (server_at next i) (rw same later)) (omega arith)

        each : (i : ℕ) → i < t.count → TickServer d i → can_get H b next i ≤ share_from next.clock b i
        each i known (leaves same away) = left i known same (standing_rests standing i known) (idle (server_at next i)) refl
        each i known (serves first now choice) =
            rw (now, served_beyond H (standing_booked admitted ok.standing i known) b next.clock (beyond i known first.works))
            (omega arith)

    tick_covers : CoversNext
    tick_covers = go (tick_cases ok.standing.within)
      where
        go : TickCase d → CoversNext
        go (refused_tick same choice) = rw same (ok.covers b)
        go (idle_tick none clock choice) = beyond_covers (λ i known runs. not_both (none i (omega (arith, ok.standing.count))) runs)
        go (given_tick p first clock choice) = at (dec_lt b.tick (server_at d p).deadline.tick)
          where
            at : Dec (b.tick < (server_at d p).deadline.tick) → CoversNext
            at (yes h) =
                beyond_covers (λ i known runs. le_trans h (first.least i (omega (arith, ok.standing.count)) runs))
            at (no h) = paid_covers p (omega (arith, first.among, ok.standing.count)) clock choice (omega arith)

  tick_covered : {d : Dispatcher} → Covered H t d → Covered H t (tick d).dispatcher
  tick_covered ok =
      record {
        standing = tick_standing ok.standing;
        covers = tick_covers ok;
        rests = standing_rests (tick_standing ok.standing);
      }

  -- So does a course of moves.
  pub after_covered : {d : Dispatcher} → Covered H t d → (moves : List Move) → Covered H t (after d moves)
  unfolding after
  after_covered ok [] = ok
  after_covered {d} ok (an_arrival j cost ∷ more) = after_covered {d = (arrival d j cost).dispatcher} (arrival_covered ok j cost) more
  after_covered {d} ok (a_tick ∷ more) = after_covered {d = (tick d).dispatcher} (tick_covered ok) more

  -- The deadline of a server with work is ahead: one that is held back rests till then, and what is left of a budget is to be had by then.
  pub deadline_ahead : {d : Dispatcher} → Covered H t d → (i : ℕ) → i < t.count → idle (server_at d i) ≡ false
      → d.clock.tick < (server_at d i).deadline.tick
  deadline_ahead {d} ok i known busy = go (ok.rests i known)
    where
      s : Server
      s = server_at d i

      now : Moment
      now = d.clock

      with_budget : 1 ≤ s.remaining.ticks → Dec (now.tick < s.deadline.tick) → now.tick < s.deadline.tick
      with_budget left (yes h) = h
      with_budget left (no h) =
          let owes : can_get H now d i ≡ H.ticks * s.remaining.ticks + (until s.deadline now).ticks * own_share H s
          = potential_busy H s now now busy ∙ owed_reached H now s (omega arith) in
          let none : now.tick - now.tick ≡ 0 = omega arith in
          let no : ⊥
          = omega (
            arith,
            owes,
            sum_at t.count i (can_get H now d) known,
            ok.covers now,
            ap (λ (x : ℕ). x * H.ticks) none,
            mul-le-mul_left H.ticks left,
          ) in
          absurd no

      go : HasBudgetOrRests now s → now.tick < s.deadline.tick
      go (inl left) = with_budget left (dec_lt now.tick s.deadline.tick)
      go (inr (inl none)) = not_both none busy
      go (inr (inr held)) = held.1

  -- So a tick ends no later than the deadline that it was given under.
  pub tick_in_time : {d : Dispatcher} → Covered H t d → (i : ℕ) (deadline : Moment) → choice_of (tick d).answer ≡ given i deadline
      → (tick d).dispatcher.clock.tick ≤ deadline.tick
  tick_in_time {d} ok i deadline e = go (tick_cases ok.standing.within)
    where
      go : TickCase d → (tick d).dispatcher.clock.tick ≤ deadline.tick
      go (refused_tick same choice) = absurd (nobody≢given (sym choice ∙ e))
      go (idle_tick none clock choice) = absurd (nobody≢given (sym choice ∙ e))
      go (given_tick p first clock choice) =
          rw (clock, sym (given_deadline (sym choice ∙ e)))
          (omega (arith, deadline_ahead ok p (omega (arith, first.among, ok.standing.count)) (earliest_busy first)))
