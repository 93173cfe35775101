-- The moves of one server case by case, so that no proof above has to open them.
use Prim.Native.Nat.{◌+◌, ◌-◌, ◌*◌, ◌≤◌, ◌<◌}
use borrow.Author.Tests.{leb-true, leb-false, le-leb, lt-ltb, le-ltb, eq-eqb, ne_eqb}
use lib.Dec.{eqb, leb, ltb}
use mathlib.Core.Bool.{Bool, true, false, cond, ◌||◌}
use mathlib.Core.Path.{◌≡◌, refl}
use native.Mathlib.Omega.{arith}
use Rattle.booking.specs.declared.Booking.{Booking}
use Rattle.clock.specs.Clock.{until}
use Rattle.clock.specs.declared.Length.{Length}
use Rattle.clock.specs.declared.Moment.{Moment}
use Rattle.counting.proofs.TestLaws.{not_both, or_true, or_false}
use Rattle.server.specs.declared.Server.{Server}
use Rattle.server.specs.Moves.{renews, renewed, with_work, arrived, one_tick_less, postponed, spends_last, served}
use Rattle.server.specs.Server.{idle}

-- "d is at or before t"
pub renews_passed : (s : Server) (t : Moment) → s.deadline.tick ≤ t.tick → renews s t ≡ true
unfolding renews
renews_passed s t h = rw (le-leb _ _ h, or_true)

-- that is told by the one test "c × T is at least (d − t) × Q", since nothing lies between t and a deadline that has passed
pub renews_is : (s : Server) (t : Moment)
    → renews s t ≡ leb ((until t s.deadline).ticks * s.budget.ticks) (s.remaining.ticks * s.period.ticks)
unfolding renews
renews_is s t = go (leb s.deadline.tick t.tick) refl
  where
    enough : Bool
    enough = leb ((until t s.deadline).ticks * s.budget.ticks) (s.remaining.ticks * s.period.ticks)

    go : (b : Bool) → leb s.deadline.tick t.tick ≡ b → enough || b ≡ enough
    go true e =
        let none : s.deadline.tick - t.tick ≡ 0 = omega (arith, leb-true s.deadline.tick t.tick e) in
        rw (le-leb ((until t s.deadline).ticks * s.budget.ticks) (s.remaining.ticks * s.period.ticks) (rw none (omega arith)))
    go false e = or_false enough

-- a server that keeps has its deadline ahead
pub keeps_ahead : (s : Server) (t : Moment) → renews s t ≡ false → t.tick < s.deadline.tick
keeps_ahead s t e = go (leb s.deadline.tick t.tick) refl
  where
    go : (b : Bool) → leb s.deadline.tick t.tick ≡ b → t.tick < s.deadline.tick
    go true q = not_both (renews_passed s t (leb-true _ _ q)) e
    go false q = leb-false _ _ q

pub arrived_busy : (s : Server) (t : Moment) (cost : Length) → (s.waiting.ticks ≡ 0 → ⊥) → arrived s t cost ≡ with_work s cost
unfolding arrived
arrived_busy s t cost h = rw (ne_eqb _ _ h)

pub arrived_renewed : (s : Server) (t : Moment) (cost : Length) → s.waiting.ticks ≡ 0 → renews s t ≡ true
    → arrived s t cost ≡ with_work (renewed s t) cost
unfolding arrived
arrived_renewed s t cost h e = rw (eq-eqb _ _ h, e)

pub arrived_kept : (s : Server) (t : Moment) (cost : Length) → s.waiting.ticks ≡ 0 → renews s t ≡ false
    → arrived s t cost ≡ with_work s cost
unfolding arrived
arrived_kept s t cost h e = rw (eq-eqb _ _ h, e)

-- whatever it does besides, w grows by the cost
pub arrived_waiting : (s : Server) (t : Moment) (cost : Length) → (arrived s t cost).waiting.ticks ≡ s.waiting.ticks + cost.ticks
unfolding arrived
arrived_waiting s t cost = go (eqb s.waiting.ticks 0) (renews s t)
  where
    go : (i k : Bool) → (cond i (cond k (renewed s t) s) s).waiting.ticks + cost.ticks ≡ s.waiting.ticks + cost.ticks
    go true true = refl
    go true false = refl
    go false k = refl

-- the booking of a server: no move alters it
abbrev pub booking_of : Server → Booking
booking_of s = record { budget = s.budget; period = s.period }

pub arrived_booking : (s : Server) (t : Moment) (cost : Length) → booking_of (arrived s t cost) ≡ booking_of s
unfolding arrived
arrived_booking s t cost = go (idle s) (renews s t)
  where
    go : (i k : Bool) → booking_of (with_work (cond i (cond k (renewed s t) s) s) cost) ≡ booking_of s
    go true true = refl
    go true false = refl
    go false k = refl

pub served_booking : (s : Server) → booking_of (served s) ≡ booking_of s
unfolding served
served_booking s = go (spends_last s)
  where
    go : (e : Bool) → booking_of (cond e (postponed (one_tick_less s)) (one_tick_less s)) ≡ booking_of s
    go true = refl
    go false = refl

pub served_last : (s : Server) → s.remaining.ticks - 1 ≡ 0 → served s ≡ postponed (one_tick_less s)
unfolding served
served_last s h = rw (eq-eqb _ _ h)

pub served_more : (s : Server) → (s.remaining.ticks - 1 ≡ 0 → ⊥) → served s ≡ one_tick_less s
unfolding served
served_more s h = rw (ne_eqb _ _ h)

-- "d grows by T", which is no length of 0, where the tick was the last of the budget, and nowhere else
pub served_grows : (s : Server) → 1 ≤ s.period.ticks → ltb s.deadline.tick (served s).deadline.tick ≡ spends_last s
unfolding served
served_grows s some = go (spends_last s)
  where
    go : (e : Bool) → ltb s.deadline.tick (cond e (postponed (one_tick_less s)) (one_tick_less s)).deadline.tick ≡ e
    go true = lt-ltb s.deadline.tick (s.deadline.tick + s.period.ticks) (omega arith)
    go false = le-ltb s.deadline.tick s.deadline.tick (omega arith)
