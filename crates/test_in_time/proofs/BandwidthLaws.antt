-- Of what a server got in a window 64 bits hold all numbers: its bandwidth there is small, and what it got is within it.
use Prim.Native.Nat.{ℕ, ◌*◌, ◌<◌, ◌^◌}
use native.Mathlib.Nat.{mul-le-mul}
use native.Mathlib.Omega.{arith}
use Rattle.booking.specs.declared.Booking.{Booking}
use Rattle.clock.specs.Clock.{until}
use Rattle.sizes.specs.Sizes.{clock_end}
use Rattle.test_in_time.specs.declared.bandwidth.Window.{Window}
use Rattle.test_in_time.specs.Working.Bandwidth.{Allowed}

module _ {k : Booking} {w : Window} {got : ℕ} (ok : Allowed k w got) where
  pub whole_fits : (until w.from w.to).ticks * k.budget.ticks < 2 ^ 64
  whole_fits = omega (arith, mul-le-mul {n₁ = (until w.from w.to).ticks} {n₂ = clock_end} (omega (arith, ok.to)) ok.budget)

  pub spent_fits : got * k.period.ticks < 2 ^ 64
  spent_fits = omega (arith, whole_fits, ok.within)
