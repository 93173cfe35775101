-- What this program knows of the ticks that it has counted.
use Rattle.std.specs.Prelude.{ℕ, ◌≤◌}
use Rattle.callers.specs.Live.{LedCounting}
use Rattle.dispatcher.specs.Within.{Within}
use Rattle.dispatcher.specs.declared.Dispatcher.{Dispatcher}
use Rattle.test_in_time.specs.declared.bandwidth.Window.{Window}
use Rattle.test_in_time.specs.declared.lent.Counted.{Counted}

-- of so many ticks the window's server got as many as were counted, in moves that have led to the dispatcher that is left
pub record Counts (w : Window) (start : Dispatcher) (ticks : ℕ) (c : Counted) : Type 0 where
  pub led : LedCounting w.server w.to start c.dispatcher c.got
  pub few : c.got ≤ ticks
  pub within : Within c.dispatcher

-- it got n in some moves from a dispatcher on
pub record Got (w : Window) (start : Dispatcher) (n : ℕ) : Type 0 where
  pub end : Dispatcher
  pub led : LedCounting w.server w.to start end n
