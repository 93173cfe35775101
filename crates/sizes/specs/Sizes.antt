-- The numbers that document 01 sets, each named once, for the definitions.
use Rattle.std.specs.Prelude.{ℕ, ◌/◌}

-- "file 24 to 65,536 bytes"; "The header is 24 bytes"
abbrev pub header_bytes : ℕ
header_bytes = 24

abbrev pub most_file : ℕ
most_file = 65_536

-- "A server record is 8 bytes"; "An arrival record is 12 bytes"
abbrev pub server_bytes : ℕ
server_bytes = 8

abbrev pub arrival_bytes : ℕ
arrival_bytes = 12

-- "H 1 to 604,800"
abbrev pub most_frame : ℕ
most_frame = 604_800

-- "N 0 to 2,419,200"; refusal 10: "a live tick when the clock stands at 2,419,200"
abbrev pub clock_end : ℕ
clock_end = 2_419_200

-- "n 0 to 64"
abbrev pub most_servers : ℕ
most_servers = 64

-- "m 0 to 4,096"
abbrev pub most_arrivals : ℕ
most_arrivals = 4_096

-- "cost 1 to 604,800"
abbrev pub most_cost : ℕ
most_cost = 604_800

-- refusal 11: "a live arrival would take its server's waiting work above 4,294,967,295"
abbrev pub most_waiting : ℕ
most_waiting = 4_294_967_295

-- "or 4,294,967,295 for an open job"
abbrev pub open_job : ℕ
open_job = 4_294_967_295

-- the day report "lends a trace of 8,192 numbers, so it shows at most 2,048 segments"
abbrev pub trace_numbers : ℕ
trace_numbers = 8_192

abbrev pub most_shown : ℕ
most_shown = trace_numbers / 4
