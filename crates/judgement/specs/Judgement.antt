-- The refusals of a work file (document 01, "Refusal numbers"): "A file is judged 1, 2, 3, 4 (all servers), 5, then the arrivals in
-- order, each by 6, 7, 8, then 9. So 6, 7 and 8 go with the first faulty arrival."
use Rattle.std.specs.Prelude.{ℕ, zero, suc, ◌+◌, ◌*◌, leb, ltb, length, Bool, false, cond, ◌||◌, List}
use Rattle.arrival.specs.Arrival.{faulty_arrival}
use Rattle.booking.specs.Admission.{admission}
use Rattle.refusal.specs.Refusals.{Said, refused, accepted, and_then}
use Rattle.sizes.specs.Sizes.{arrival_bytes, clock_end, header_bytes, most_arrivals, most_file, most_frame, most_servers, server_bytes}
use Rattle.workfile.specs.Layout.{header}
use Rattle.workfile.specs.Work.{Work, work}
use Rattle.workfile.specs.declared.Header.{Header}

-- 1: "the file's length is outside its size range"
abbrev pub length_out_of_range : ℕ → Bool
length_out_of_range bytes = ltb bytes header_bytes || ltb most_file bytes

-- 2: "H, N, n or m out of range"
abbrev pub sizes_out_of_range : Header → Bool
sizes_out_of_range h =
    ltb h.frame.ticks 1 || ltb most_frame h.frame.ticks || ltb clock_end h.horizon.tick
    || ltb most_servers h.servers.count || ltb most_arrivals h.arrivals.count

-- 3: "an offset breaks the layout": "Server records start at or after byte 24; arrivals start at or after the end of the servers; the
-- last arrival ends within the file." "Offsets count even where a count is 0."
abbrev pub layout_broken : Header → ℕ → Bool
layout_broken h bytes =
    ltb h.servers.offset header_bytes
    || ltb h.arrivals.offset (h.servers.offset + server_bytes * h.servers.count)
    || ltb bytes (h.arrivals.offset + arrival_bytes * h.arrivals.count)

-- 7: "an arrival's moment is before the one listed before it"; the first has none before it
abbrev pub backward : Work → ℕ → Bool
backward w zero = false
backward w (suc k) = ltb (w.arrival (suc k)).moment.tick (w.arrival k).moment.tick

-- 8: "an arrival's moment is N or later"
abbrev pub late : Work → ℕ → Bool
late w k = leb w.horizon.tick (w.arrival k).moment.tick

-- arrival k by 6, 7, 8
unfoldable pub arrival_judged : Work → ℕ → Said (Unit {0})
arrival_judged w k =
    cond (faulty_arrival w.table.count (w.arrival k).server (w.arrival k).cost) (refused 6 k)
    (cond (backward w k) (refused 7 k)
    (cond (late w k) (refused 8 k) accepted))

-- the first k arrivals in order
unfoldable pub arrivals_judged : Work → ℕ → Said (Unit {0})
arrivals_judged w zero = accepted
arrivals_judged w (suc k) = and_then (arrivals_judged w k) (arrival_judged w k)

-- 9: "the finish list has fewer than m places"
abbrev pub finishes_judged : Work → ℕ → Said (Unit {0})
finishes_judged w places = cond (ltb places w.arrivals) (refused 9 0) accepted

-- a work as it stands: 4, 5, then the arrivals, then 9
unfoldable pub work_judged : Work → ℕ → Said (Unit {0})
work_judged w places =
    and_then (admission w.frame w.table) (and_then (arrivals_judged w w.arrivals) (finishes_judged w places))

-- the whole judgement of a file, beside a finish list of so many places
unfoldable pub judged : List ℕ → ℕ → Said (Unit {0})
judged file places =
    cond (length_out_of_range (length file)) (refused 1 0)
    (cond (sizes_out_of_range (header file)) (refused 2 0)
    (cond (layout_broken (header file) (length file)) (refused 3 0) (work_judged (work file) places)))
