-- What the step of an arrival needs so that every number of it fits.
use Rattle.std.specs.Prelude.{◌≤◌}
use Rattle.clock.specs.declared.Moment.{Moment}
use Rattle.server.specs.declared.Server.{Server}
use Rattle.sizes.specs.Sizes.{clock_end, most_frame}
use Rattle.steps.specs.Steps.{last_deadline}

-- nothing is beyond
pub record Fits (s : Server) (t : Moment) : Type 0 where
  pub moment : t.tick ≤ clock_end
  pub period : s.period.ticks ≤ most_frame
  pub budget : s.budget.ticks ≤ s.period.ticks
  pub remaining : s.remaining.ticks ≤ s.budget.ticks
  pub deadline : s.deadline.tick ≤ last_deadline
