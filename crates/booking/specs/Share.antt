-- A booking's faults and its share (document 01, refusal 4 and "The share of a server").
use Rattle.std.specs.Prelude.{ℕ, ◌*◌, ◌/◌, ◌%◌, eqb, ltb, Bool, not, ◌||◌}
use Rattle.clock.specs.Clock.{ticks}
use Rattle.clock.specs.declared.Length.{Length}
use Rattle.booking.specs.declared.Booking.{Booking}

-- the booking of Q in every T
abbrev pub booked : ℕ → ℕ → Booking
booked Q T = record { budget = ticks Q; period = ticks T }

-- refusal 4: "a server has T = 0, or T not dividing H, or Q = 0, or Q > T"
abbrev pub faulty_booking : Length → Booking → Bool
faulty_booking H b =
    eqb b.period.ticks 0 || not (eqb (H.ticks % b.period.ticks) 0)
    || eqb b.budget.ticks 0 || ltb b.period.ticks b.budget.ticks

-- "The share of a server is Q times (H divided by T)."
abbrev pub share : Length → Booking → Length
share H b = ticks (b.budget.ticks * (H.ticks / b.period.ticks))
