-- A dispatcher at its start: the clock is at 0, and so are c, d and w of every server (document 01: "All are 0 at the start").
use Rattle.std.specs.Prelude.{ℕ, ltb, cond}
use Rattle.booking.specs.Admission.{Table}
use Rattle.clock.specs.Clock.{moment}
use Rattle.clock.specs.declared.Length.{Length}
use Rattle.counting.specs.Places.{places}
use Rattle.server.specs.Server.{vacant, fresh}
use Rattle.server.specs.declared.Server.{Server}
use Rattle.sizes.specs.Sizes.{most_servers}
use Rattle.dispatcher.specs.declared.Dispatcher.{Dispatcher}

-- a server at each of the table's numbers; "Places behind its servers are 0"
abbrev pub start_at : Table → ℕ → Server
start_at t k = cond (ltb k t.count) (fresh (t.booking k)) vacant

-- the dispatcher of a frame and a table
unfoldable pub at_start : Length → Table → Dispatcher
at_start H t = record { frame = H; count = t.count; clock = moment 0; servers = places most_servers (start_at t) }
