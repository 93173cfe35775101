-- What every move keeps: a dispatcher stays within its ranges, with the bookings of its table.
use Prim.Native.Nat.{ℕ, ◌≤◌, ◌<◌}
use mathlib.Core.List.{List, [], ◌∷◌}
use mathlib.Core.Path.{◌≡◌, refl, ◌∙◌, ap, subst⁻¹}
use native.Mathlib.Omega.{arith}
use Rattle.booking.proofs.AdmissionLaws.{Admitted}
use Rattle.booking.proofs.ShareLaws.{Sound}
use Rattle.booking.specs.Admission.{Table}
use Rattle.clock.specs.declared.Length.{Length}
use Rattle.dispatcher.proofs.MoveLaws.{arrival_within, tick_within}
use Rattle.dispatcher.proofs.StartLaws.{start_server, admitted_within}
use Rattle.dispatcher.specs.Course.{Move, an_arrival, a_tick, after}
use Rattle.dispatcher.specs.Moves.{arrival, tick}
use Rattle.dispatcher.specs.Pick.{server_at}
use Rattle.dispatcher.specs.Start.{at_start}
use Rattle.dispatcher.specs.Within.{Within}
use Rattle.dispatcher.specs.declared.Dispatcher.{Dispatcher}
use Rattle.moments.proofs.MomentLaws.{arrival_keeps}
use Rattle.server.proofs.MoveLaws.{booking_of, arrived_booking, served_booking}
use Rattle.server.proofs.Potential.{HasBudgetOrRests}
use Rattle.server.proofs.PotentialLaws.{Booked, ranged_rests}
use Rattle.sizes.specs.Sizes.{most_frame, most_servers}
use Rattle.demand_3.proofs.MovedLaws.{ArrivalServer, passes, brings, TickServer, leaves, serves, arrival_server, tick_server, tick_count}

pub record Standing (t : Table) (d : Dispatcher) : Type 0 where
  pub within : Within d
  pub count : d.count ≡ t.count
  pub bookings : (i : ℕ) → i < t.count → booking_of (server_at d i) ≡ t.booking i

module _ {t : Table} where
  -- a server of an admitted table
  pub standing_booked : {H : Length} {d : Dispatcher} → Admitted H t → Standing t d → (i : ℕ) → i < t.count → Booked H (server_at d i)
  standing_booked {H} {d} admitted ok i b =
      record {
        sound = subst⁻¹ (Sound H) (ok.bookings i b) (admitted.sound i b);
        small = (ok.within.servers i (omega (arith, ok.count))).remaining;
      }

  -- it has budget or rests
  pub standing_rests : {d : Dispatcher} → Standing t d → (i : ℕ) → i < t.count → HasBudgetOrRests d.clock (server_at d i)
  standing_rests ok i b = ranged_rests (ok.within.servers i (omega (arith, ok.count)))

  -- an arrival
  pub arrival_standing : {d : Dispatcher} → Standing t d → (j : ℕ) (cost : Length) → Standing t (arrival d j cost).dispatcher
  arrival_standing {d} ok j cost =
      record {
        within = arrival_within ok.within j cost;
        count = (arrival_keeps d j cost).1 ∙ ok.count;
        bookings = λ i b. go i b (arrival_server ok.within j cost i);
      }
    where
      go : (i : ℕ) → i < t.count → ArrivalServer d j cost i → booking_of (server_at (arrival d j cost).dispatcher i) ≡ t.booking i
      go i b (passes e) = ap booking_of e ∙ ok.bookings i b
      go i b (brings e) = ap booking_of e ∙ arrived_booking (server_at d i) d.clock cost ∙ ok.bookings i b

  -- a tick
  pub tick_standing : {d : Dispatcher} → Standing t d → Standing t (tick d).dispatcher
  tick_standing {d} ok =
      record {
        within = tick_within ok.within;
        count = tick_count ok.within ∙ ok.count;
        bookings = λ i b. go i b (tick_server ok.within i);
      }
    where
      go : (i : ℕ) → i < t.count → TickServer d i → booking_of (server_at (tick d).dispatcher i) ≡ t.booking i
      go i b (leaves e away) = ap booking_of e ∙ ok.bookings i b
      go i b (serves first e choice) = ap booking_of e ∙ served_booking (server_at d i) ∙ ok.bookings i b

  -- a course of moves
  pub after_standing : {d : Dispatcher} → Standing t d → (moves : List Move) → Standing t (after d moves)
  unfolding after
  after_standing ok [] = ok
  after_standing {d} ok (an_arrival j cost ∷ more) = after_standing {d = (arrival d j cost).dispatcher} (arrival_standing ok j cost) more
  after_standing {d} ok (a_tick ∷ more) = after_standing {d = (tick d).dispatcher} (tick_standing ok) more

-- the start of an admitted table
pub start_standing : (H : Length) (t : Table) → 1 ≤ H.ticks → H.ticks ≤ most_frame → t.count ≤ most_servers → Admitted H t
    → Standing t (at_start H t)
unfolding at_start
start_standing H t from to few admitted =
    record {
      within = admitted_within H t from to few admitted;
      count = refl;
      bookings = λ i b. ap booking_of (start_server H t few i b);
    }
