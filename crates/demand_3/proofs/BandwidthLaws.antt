-- The bandwidth: no move raises what a server can still get, and a tick under a deadline no later than b lowers it by the frame. So the
-- ticks that it gets are paid from what it could get at the moment when it was idle. Of admission only that each booking is sound enters
-- here, and of the pick only that the server has work.
use Prim.Native.Nat.{ℕ, ◌+◌, ◌*◌, ◌≤◌, ◌<◌}
use borrow.Author.Tests.{leb-true, leb-false}
use lib.Dec.{leb}
use mathlib.Core.Bool.{Bool, true, false, cond}
use mathlib.Core.List.{List, [], ◌∷◌}
use mathlib.Core.Logic.{inl}
use mathlib.Core.Path.{◌≡◌, refl, sym, ap}
use native.Mathlib.Nat.{le_of_mul-le-mul_right, le_trans, mul-le-mul_right}
use native.Mathlib.Omega.{arith}
use Rattle.booking.proofs.AdmissionLaws.{Admitted}
use Rattle.booking.proofs.ShareLaws.{sound_exact}
use Rattle.booking.specs.Admission.{Table}
use Rattle.booking.specs.Share.{share}
use Rattle.clock.specs.Clock.{ticks, until}
use Rattle.clock.specs.declared.Length.{Length}
use Rattle.clock.specs.declared.Moment.{Moment}
use Rattle.dispatcher.proofs.PickLaws.{earliest_busy, earliest_charged}
use Rattle.dispatcher.specs.Course.{Move, an_arrival, a_tick}
use Rattle.dispatcher.specs.Moves.{arrival, tick}
use Rattle.dispatcher.specs.Pick.{server_at, Earliest}
use Rattle.dispatcher.specs.declared.Dispatcher.{Dispatcher}
use Rattle.moments.proofs.MomentLaws.{arrival_keeps}
use Rattle.moments.specs.Moments.{choice_of}
use Rattle.server.proofs.Potential.{potential}
use Rattle.server.proofs.PotentialLaws.{Booked, arrived_potential, later_potential, served_potential, served_beyond, rests_potential}
use Rattle.server.specs.Moves.{served}
use Rattle.server.specs.Server.{idle}
use Rattle.demand_3.specs.Got.{is_under, got, WithinBandwidth}
use Rattle.demand_3.proofs.CourseLaws.{under_away, under_nobody, under_own}
use Rattle.demand_3.proofs.MovedLaws.{ArrivalServer, passes, brings, TickServer, leaves, serves, arrival_server, tick_server, tick_clock}
use Rattle.demand_3.proofs.StandingLaws.{Standing, standing_booked, arrival_standing, tick_standing}

-- what server i of a dispatcher can still get under deadlines no later than b
abbrev pub can_get : Length → Moment → Dispatcher → ℕ → ℕ
can_get H b d i = potential H d.clock b (server_at d i)

module _ {H : Length} {t : Table} (admitted : Admitted H t) (b : Moment) where
  -- an arrival does not raise it
  pub arrival_pays : {d : Dispatcher} → Standing t d → (j : ℕ) (cost : Length) (i : ℕ) → i < t.count
      → can_get H b (arrival d j cost).dispatcher i ≤ can_get H b d i
  arrival_pays {d} ok j cost i known = go (arrival_server ok.within j cost i)
    where
      go : ArrivalServer d j cost i → can_get H b (arrival d j cost).dispatcher i ≤ can_get H b d i
      go (passes e) = rw ((arrival_keeps d j cost).0, e) (omega arith)
      go (brings e) = rw ((arrival_keeps d j cost).0, e) (arrived_potential H (standing_booked admitted ok i known) d.clock b cost)

  -- nor does a tick, and one that the server gets under a deadline no later than b lowers it by the frame
  pub tick_pays : {d : Dispatcher} → Standing t d → (i : ℕ) → i < t.count
      → can_get H b (tick d).dispatcher i + cond (is_under i b (choice_of (tick d).answer)) H.ticks 0 ≤ can_get H b d i
  tick_pays {d} ok i known = go (tick_server ok.within i)
    where
      next : Dispatcher
      next = (tick d).dispatcher

      booked : Booked H (server_at d i)
      booked = standing_booked admitted ok i known

      own : Earliest d d.count i → (u : Bool) → leb (server_at d i).deadline.tick b.tick ≡ u
          → potential H next.clock b (served (server_at d i)) + cond u H.ticks 0 ≤ can_get H b d i
      own first true u =
          served_potential H booked b d.clock next.clock (earliest_busy first)
          (earliest_charged ok.within first)
          (leb-true _ _ u)
      own first false u = rw (served_beyond H booked b next.clock (leb-false _ _ u)) (omega arith)

      go : TickServer d i → can_get H b next i + cond (is_under i b (choice_of (tick d).answer)) H.ticks 0 ≤ can_get H b d i
      go (leaves same away) =
          rw (same, under_away i b (choice_of (tick d).answer) away)
          (omega (arith, later_potential H booked d.clock next.clock b (tick_clock ok.within)))
      go (serves first now choice) = rw (now, choice, under_own i b (server_at d i).deadline) (own first _ refl)

  -- so the ticks that it gets in a course of moves are paid from what it can get at the beginning
  got_paid : {d : Dispatcher} → Standing t d → (i : ℕ) → i < t.count → (moves : List Move)
      → got i b d moves * H.ticks ≤ can_get H b d i
  unfolding got
  got_paid ok i known [] = omega arith
  got_paid {d} ok i known (an_arrival j cost ∷ more) =
      rw (under_nobody i b)
      (omega (
        arith,
        got_paid {d = (arrival d j cost).dispatcher} (arrival_standing ok j cost) i known more,
        arrival_pays ok j cost i known,
      ))
  got_paid {d} ok i known (a_tick ∷ more) =
      go (is_under i b (choice_of (tick d).answer)) (tick_pays ok i known) (got_paid {d = (tick d).dispatcher} (tick_standing ok) i known more)
    where
      go : (u : Bool) → can_get H b (tick d).dispatcher i + cond u H.ticks 0 ≤ can_get H b d i
          → got i b (tick d).dispatcher more * H.ticks ≤ can_get H b (tick d).dispatcher i
          → (cond u 1 0 + got i b (tick d).dispatcher more) * H.ticks ≤ can_get H b d i
      go true pays rest = omega arith
      go false pays rest = omega arith

  -- and an idle server can get no more than its share from then on
  pub bandwidth : 1 ≤ H.ticks → {d : Dispatcher} → Standing t d → (i : ℕ) → i < t.count → idle (server_at d i) ≡ true
      → (moves : List Move) → WithinBandwidth (t.booking i) d.clock b (got i b d moves)
  bandwidth some {d} ok i known rests moves =
      le_of_mul-le-mul_right {k = H.ticks}
      (omega (
        arith,
        mul-le-mul_right (t.booking i).period.ticks (le_trans (got_paid ok i known moves) share_from_here),
        ap (λ (x : ℕ). (until d.clock b).ticks * x) (sound_exact H (t.booking i) (admitted.sound i known)),
      ))
      some
    where
      share_from_here : can_get H b d i ≤ (until d.clock b).ticks * (share H (t.booking i)).ticks
      share_from_here = rw (sym (ok.bookings i known)) (rests_potential H (standing_booked admitted ok i known) d.clock b (inl rests))
