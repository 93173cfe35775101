-- The dispatcher of an accepted table is live, and stays so by every move, accepted or refused; of one that is live demand 3 holds.
use Prim.Native.Nat.{ℕ, ◌≤◌, ◌<◌}
use borrow.Author.Tests.{eq-eqb}
use mathlib.Core.List.{List}
use mathlib.Core.Path.{◌≡◌, subst⁻¹}
use native.Mathlib.Nat.{le_trans}
use native.Mathlib.Omega.{arith}
use Rattle.booking.specs.declared.Booking.{Booking}
use Rattle.callers.proofs.LiveLaws.{opened_demand_3, opened_standing, live_demand_3, led_none, led_arrived, led_ticked}
use Rattle.callers.specs.Live.{LiveDemand3}
use Rattle.clock.specs.declared.Length.{Length}
use Rattle.clock.specs.declared.Moment.{Moment}
use Rattle.demand_3.proofs.StandingLaws.{Standing, arrival_standing, tick_standing}
use Rattle.demand_3.specs.Got.{WithinBandwidth}
use Rattle.dispatcher.specs.Moves.{Answered, arrival, reply_says, tick}
use Rattle.dispatcher.specs.declared.Turn.{Turn}
use Rattle.dispatcher.specs.Pick.{server_at}
use Rattle.dispatcher.specs.declared.Reply.{Reply}
use Rattle.dispatcher.specs.declared.Dispatcher.{Dispatcher}
use Rattle.opening.specs.Opening.{listed, opening}
use Rattle.std.specs.Prelude.{Ok}
use Rattle.server.proofs.MoveLaws.{booking_of}
use Rattle.sizes.specs.Sizes.{clock_end}
use Rattle.test_in_time.specs.Working.Bandwidth.{Allowed}
use Rattle.test_in_time.specs.Working.Counted.{Got}
use Rattle.test_in_time.specs.Working.Live.{Live}

pub live_opened : (l : List ℕ) (H : Length) (r : Reply (Unit {0})) → reply_says r ≡ opening l H → r.answer ≡ Ok tt → Live r.dispatcher
live_opened l H r e answer =
    record {
      start = r.dispatcher;
      table = listed l;
      demand = opened_demand_3 l H r e answer;
      led = led_none r.dispatcher;
      standing = opened_standing l H r e answer (led_none r.dispatcher);
    }

module _ {d : Dispatcher} (live : Live d) where
  pub live_arrived : (r : Reply (Unit {0})) (i : ℕ) (cost : Length) → reply_says r ≡ arrival d i cost → Live r.dispatcher
  live_arrived r i cost e =
      record {
        start = live.start;
        table = live.table;
        demand = live.demand;
        led = led_arrived live.led r i cost e;
        standing = subst⁻¹ (λ (m : Answered (Unit {0})). Standing live.table m.dispatcher) e (arrival_standing live.standing i cost);
      }

  pub live_ticked : (r : Reply Turn) → reply_says r ≡ tick d → Live r.dispatcher
  live_ticked r e =
      record {
        start = live.start;
        table = live.table;
        demand = live.demand;
        led = led_ticked live.led r e;
        standing = subst⁻¹ (λ (m : Answered Turn). Standing live.table m.dispatcher) e (tick_standing live.standing);
      }

  pub live_demand : LiveDemand3 live.table d
  live_demand = live_demand_3 live.start live.table live.demand d live.led

  -- what a server gets by any moves from where it has no work waiting is within its bandwidth
  pub live_allowed : (i : ℕ) (to : Moment) → i < d.count → (server_at d i).waiting.ticks ≡ 0 → to.tick ≤ clock_end → (n : ℕ)
      → Got (record { server = i; from = d.clock; to = to }) d n
      → Allowed (booking_of (server_at d i)) (record { server = i; from = d.clock; to = to }) n
  live_allowed i to few none by n got =
      let known : i < live.table.count = omega (arith, few, live.standing.count) in
      let ranges = live.standing.within.servers i few in
      record {
        within =
            subst⁻¹ (λ (k : Booking). WithinBandwidth k d.clock to n) (live.standing.bookings i known)
            (live_demand.bandwidth i known (eq-eqb _ _ none) to got.end n got.led);
        budget = le_trans ranges.fits ranges.period;
        to = by;
      }
