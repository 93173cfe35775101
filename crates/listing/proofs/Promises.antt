-- Each promise of this crate allows one outcome, and asks nothing.
use Rattle.promise.specs.AsksNothing.{AsksNothing}
use Rattle.promise.specs.OneOutcome.{OneOutcome}
use Rattle.promise.proofs.OneOutcomeLaws.{both_are}
use Rattle.listing.proofs.arrival_of.Reads as arrival-of
use Rattle.listing.proofs.arrivals_beyond.Reads as arrivals-beyond
use Rattle.listing.proofs.booking_of.Reads as booking-of
use Rattle.listing.proofs.bookings_beyond.Reads as bookings-beyond
use Rattle.listing.proofs.sheet_of.Reads as sheet-of

pub booking_of_one : OneOutcome booking-of.Post
booking_of_one l a x y at_x at_y p q = both_are p q

pub booking_of_asks : AsksNothing booking-of.Pre
booking_of_asks l a given = tt

pub sheet_of_one : OneOutcome sheet-of.Post
sheet_of_one l a x y at_x at_y p q = both_are p q

pub sheet_of_asks : AsksNothing sheet-of.Pre
sheet_of_asks l a given = tt

pub arrival_of_one : OneOutcome arrival-of.Post
arrival_of_one l a x y at_x at_y p q = both_are p q

pub arrival_of_asks : AsksNothing arrival-of.Pre
arrival_of_asks l a given = tt

pub bookings_beyond_one : OneOutcome bookings-beyond.Post
bookings_beyond_one l a x y at_x at_y p q = both_are p q

pub bookings_beyond_asks : AsksNothing bookings-beyond.Pre
bookings_beyond_asks l a given = tt

pub arrivals_beyond_one : OneOutcome arrivals-beyond.Post
arrivals_beyond_one l a x y at_x at_y p q = both_are p q

pub arrivals_beyond_asks : AsksNothing arrivals-beyond.Pre
arrivals_beyond_asks l a given = tt
