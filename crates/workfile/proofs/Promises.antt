-- Each promise of this crate allows one outcome, and asks nothing: of `at` the promise of either kind of record.
use Rattle.promise.specs.AsksNothing.{AsksNothing}
use Rattle.promise.specs.OneOutcome.{OneOutcome}
use Rattle.promise.proofs.OneOutcomeLaws.{both_are}
use Rattle.workfile.proofs.ArrivalRecord.at.Reads as arrival-at
use Rattle.workfile.proofs.BookingRecord.at.Reads as booking-at
use Rattle.workfile.proofs.header_of.Reads as header_of

pub header_of_one : OneOutcome header_of.Post
header_of_one l a x y at_x at_y p q = both_are p q

pub header_of_asks : AsksNothing header_of.Pre
header_of_asks l a given = tt

pub booking_at_one : OneOutcome booking-at.Post
booking_at_one l a x y at_x at_y p q = both_are p q

pub booking_at_asks : AsksNothing booking-at.Pre
booking_at_asks l a given = tt

pub arrival_at_one : OneOutcome arrival-at.Post
arrival_at_one l a x y at_x at_y p q = both_are p q

pub arrival_at_asks : AsksNothing arrival-at.Pre
arrival_at_asks l a given = tt
