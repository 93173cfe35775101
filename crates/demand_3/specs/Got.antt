-- The ticks that a server gets in a course of moves on a live dispatcher, and how many demand 3 allows.
use Rattle.std.specs.Prelude.{ℕ, ◌+◌, ◌*◌, ◌≤◌, eqb, leb, Bool, false, cond, ◌&&◌, List, [], ◌∷◌}
use Rattle.booking.specs.declared.Booking.{Booking}
use Rattle.clock.specs.Clock.{until}
use Rattle.clock.specs.declared.Moment.{Moment}
use Rattle.dispatcher.specs.Course.{Move, an_arrival, a_tick, moved}
use Rattle.dispatcher.specs.Moves.{tick}
use Rattle.dispatcher.specs.declared.Dispatcher.{Dispatcher}
use Rattle.history.specs.Choice.{Choice, nobody, given}
use Rattle.moments.specs.Moments.{choice_of}

-- what a move gives a tick to
abbrev pub given_by : Dispatcher → Move → Choice
given_by d (an_arrival i cost) = nobody
given_by d a_tick = choice_of (tick d).answer

-- whether a tick is given to server i under a deadline no later than b
unfoldable pub is_under : ℕ → Moment → Choice → Bool
is_under i b nobody = false
is_under i b (given j deadline) = eqb i j && leb deadline.tick b.tick

-- the ticks that server i gets in a course of moves under deadlines no later than b
unfoldable pub got : ℕ → Moment → Dispatcher → List Move → ℕ
got i b d [] = 0
got i b d (m ∷ more) = cond (is_under i b (given_by d m)) 1 0 + got i b (moved d m) more

-- so many ticks of a booking's server from a on, under deadlines no later than b, "times its period, are at most (b minus a) times its
-- budget"
abbrev pub WithinBandwidth : Booking → (a b : Moment) → ℕ → Type 0
WithinBandwidth booking a b n = n * booking.period.ticks ≤ (until a b).ticks * booking.budget.ticks
