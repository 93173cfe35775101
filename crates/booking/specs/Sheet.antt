-- The booking sheet of a table, and what is left on it: "they start from the frame and take each share off what is left" (document 02,
-- W-205).
use Rattle.std.specs.Prelude.{◌-◌, ltb, get_or, cond}
use Rattle.clock.specs.Clock.{ticks}
use Rattle.clock.specs.declared.Length.{Length}
use Rattle.counting.specs.Places.{places}
use Rattle.sizes.specs.Sizes.{most_servers}
use Rattle.booking.specs.Admission.{Table, first_faulty, shares}
use Rattle.booking.specs.declared.Sheet.{Sheet}
use Rattle.booking.specs.Share.{booked}

-- the sheet of a frame and a table has the first 64 bookings
abbrev pub sheet_of : Length → Table → Sheet
sheet_of H t = record { frame = H; count = t.count; bookings = places most_servers t.booking }

-- the table that stands on a sheet; behind the last line Q and T are 0
abbrev pub table_on : Sheet → Table
table_on s = record { count = s.count; booking = λ k. get_or s.bookings k (booked 0 0) }

-- what the shares leave of the frame; nothing where a booking is faulty, or where they are more than the frame
abbrev pub left_of : Length → Table → Length
left_of H t = cond (ltb (first_faulty H t) t.count) (ticks 0) (ticks (H.ticks - shares H t))
