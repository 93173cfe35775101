-- What this program knows of what a server got in a window.
use Rattle.std.specs.Prelude.{ℕ, ◌≤◌}
use Rattle.booking.specs.declared.Booking.{Booking}
use Rattle.demand_3.specs.Got.{WithinBandwidth}
use Rattle.sizes.specs.Sizes.{clock_end, most_frame}
use Rattle.test_in_time.specs.declared.bandwidth.Window.{Window}

-- it is within the bandwidth of the server's booking, of which 64 bits hold all numbers
pub record Allowed (k : Booking) (w : Window) (got : ℕ) : Type 0 where
  pub within : WithinBandwidth k w.from w.to got
  pub budget : k.budget.ticks ≤ most_frame
  pub to : w.to.tick ≤ clock_end
