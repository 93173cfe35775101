-- What steps 1 and 3 of a moment make of any server, so that the code of both has a promise for all numbers. They are document 01's steps
-- (`Rattle.server.specs.Moves`), but where something is beyond its range or the work is too much in step 1, and where the server is unserved
-- in step 3: there it stays as it is. No rule stands behind that, and a dispatcher takes no such step (`StepLaws`: `arrival_ranged`,
-- `tick_ranged`).
use Rattle.std.specs.Prelude.{ℕ, ◌+◌, ◌*◌, ltb, Bool, cond, ◌||◌}
use Rattle.clock.specs.Clock.{last_tick, later}
use Rattle.clock.specs.declared.Length.{Length}
use Rattle.clock.specs.declared.Moment.{Moment}
use Rattle.server.specs.Moves.{arrived, served, spent}
use Rattle.server.specs.Server.{idle}
use Rattle.server.specs.declared.Server.{Server}
use Rattle.sizes.specs.Sizes.{clock_end, most_frame, most_waiting}

-- no deadline of a dispatcher is later: it is at most T × (clock + 1) (`Ranged`), T at most 604,800 and the clock at most 2,419,200
abbrev pub last_deadline : ℕ
last_deadline = most_frame * (clock_end + 1)

-- a moment behind the end of the clock, T above 604,800, Q above T, c above Q, or a later deadline
unfoldable pub beyond : Server → Moment → Bool
beyond s t =
    ltb clock_end t.tick || ltb most_frame s.period.ticks || ltb s.period.ticks s.budget.ticks
    || ltb s.budget.ticks s.remaining.ticks || ltb last_deadline s.deadline.tick

-- step 1, where nothing is beyond and w stays within 4,294,967,295
unfoldable pub after_arrival : Server → Moment → Length → Server
after_arrival s t cost =
    cond (beyond s t || ltb most_waiting (s.waiting.ticks + cost.ticks)) s (arrived s t cost)

-- no work, no budget left, or a next deadline that 64 bits cannot hold
unfoldable pub unserved : Server → Bool
unserved s = idle s || spent s || ltb last_tick (later s.deadline s.period).tick

-- step 3, where there is work and budget, and 64 bits can hold the next deadline
unfoldable pub after_tick : Server → Server
after_tick s = cond (unserved s) s (served s)
