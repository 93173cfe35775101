-- What a work file holds: a frame, a horizon, a table of servers and a list of arrivals. "Servers are numbered from 0 in file order,
-- arrivals too." (document 01, "The work file")
use Rattle.std.specs.Prelude.{ℕ, ◌+◌, ◌*◌, List}
use Rattle.arrival.specs.declared.Arrival.{Arrival}
use Rattle.booking.specs.Admission.{Table}
use Rattle.clock.specs.declared.Length.{Length}
use Rattle.clock.specs.declared.Moment.{Moment}
use Rattle.sizes.specs.Sizes.{server_bytes, arrival_bytes}
use Rattle.workfile.specs.declared.Header.{Header}
use Rattle.workfile.specs.Layout.{header, booking_at, arrival_at}

pub record Work : Type 0 where
  -- H
  pub frame : Length
  -- N
  pub horizon : Moment
  -- n servers
  pub table : Table
  -- m, and each arrival
  pub arrivals : ℕ
  pub arrival : ℕ → Arrival

-- what a file holds under a header: the records stand one behind the other from their offsets on
abbrev pub work_under : Header → List ℕ → Work
work_under h file =
    record {
      frame = h.frame;
      horizon = h.horizon;
      table = record { count = h.servers.count; booking = λ k. booking_at file (h.servers.offset + server_bytes * k) };
      arrivals = h.arrivals.count;
      arrival = λ k. arrival_at file (h.arrivals.offset + arrival_bytes * k);
    }

-- the work of a file is what it holds under its own header
unfoldable pub work : List ℕ → Work
work file = work_under (header file) file
