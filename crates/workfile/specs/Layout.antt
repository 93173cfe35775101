-- Where the numbers of a work file lie (document 01, "The work file").
use Rattle.std.specs.Prelude.{ℕ, ◌+◌, List}
use Rattle.arrival.specs.declared.Arrival.{Arrival}
use Rattle.booking.specs.Share.{booked}
use Rattle.booking.specs.declared.Booking.{Booking}
use Rattle.clock.specs.Clock.{moment, ticks}
use Rattle.numbers.specs.Word.{number_at}
use Rattle.workfile.specs.declared.Header.{Header}

-- "The header is 24 bytes: frame H, horizon N, server count n, server offset, arrival count m, arrival offset."
unfoldable pub header : List ℕ → Header
header file =
    record {
      frame = ticks (number_at file 0);
      horizon = moment (number_at file 4);
      servers = record { count = number_at file 8; offset = number_at file 12 };
      arrivals = record { count = number_at file 16; offset = number_at file 20 };
    }

-- "A server record is 8 bytes: Q, T."
unfoldable pub booking_at : List ℕ → ℕ → Booking
booking_at file at = booked (number_at file at) (number_at file (at + 4))

-- "An arrival record is 12 bytes: moment, server, cost."
unfoldable pub arrival_at : List ℕ → ℕ → Arrival
arrival_at file at =
    record { moment = moment (number_at file at); server = number_at file (at + 4); cost = ticks (number_at file (at + 8)) }
