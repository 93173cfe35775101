-- What a server holds (document 01, "One moment of the clock"): beside its booking of Q in every T "its remaining budget c, its
-- deadline d and its waiting work w".
use Rattle.std.specs.Prelude.{eqb, Bool}
use Rattle.booking.specs.Share.{booked}
use Rattle.booking.specs.declared.Booking.{Booking}
use Rattle.clock.specs.Clock.{moment, ticks}
use Rattle.clock.specs.declared.Length.{Length}
use Rattle.clock.specs.declared.Moment.{Moment}
use Rattle.server.specs.declared.Server.{Server}

-- "All are 0 at the start."
abbrev pub fresh : Booking → Server
fresh b = record { budget = b.budget; period = b.period; remaining = ticks 0; deadline = moment 0; waiting = ticks 0 }

-- the server once it holds c, d and w: no move alters its booking
abbrev pub holding : Server → Length → Moment → Length → Server
holding s c d w = record { budget = s.budget; period = s.period; remaining = c; deadline = d; waiting = w }

-- a place behind the servers, at which every number is 0
abbrev pub vacant : Server
vacant = fresh (booked 0 0)

-- "A server is idle when w = 0."
abbrev pub idle : Server → Bool
idle s = eqb s.waiting.ticks 0

-- whom step 2 passes over, "Among servers with waiting work the one with the earliest deadline runs": a server without
abbrev pub passed_over : Server → Bool
passed_over s = idle s
