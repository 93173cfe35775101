-- What the numbers of a server may be at a moment t of the clock: what every move keeps.
use Rattle.std.specs.Prelude.{◌+◌, ◌*◌, ◌≤◌, ◌⊎◌, ◌≡◌}
use Rattle.clock.specs.declared.Moment.{Moment}
use Rattle.sizes.specs.Sizes.{most_frame, most_waiting}
use Rattle.server.specs.declared.Server.{Server}

pub record Ranged (t : Moment) (s : Server) : Type 0 where
  -- Q from 1 to T, T to 604,800
  pub budget : 1 ≤ s.budget.ticks
  pub fits : s.budget.ticks ≤ s.period.ticks
  pub period : s.period.ticks ≤ most_frame
  -- c to Q, w to 4,294,967,295, d to T × (t + 1)
  pub remaining : s.remaining.ticks ≤ s.budget.ticks
  pub waiting : s.waiting.ticks ≤ most_waiting
  pub deadline : s.deadline.tick ≤ s.period.ticks * (t.tick + 1)
  -- c from 1, or else c, d and w all 0, as at the start
  pub charged :
      (1 ≤ s.remaining.ticks) ⊎ ((s.remaining.ticks ≡ 0) × (s.deadline.tick ≡ 0) × (s.waiting.ticks ≡ 0))
