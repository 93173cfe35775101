-- Each promise of this crate allows one outcome, and asks nothing: it says what the result is. What takes a record does so of every kind.
use contract.BorrowLft.{⊑_static}
use denote.Param.Laws.{Laws, IsCopy}
use denote.RattleType.{RattleType}
use mathlib.Core.List.{[]}
use mathlib.Core.Path.{◌≡◌}
use mir.Syntax.{Dict}
use Rattle.arrival.proofs.Arrival.TheLaws as arrival-laws
use Rattle.arrival.specs.contracts.Arrival as arrival
use Rattle.booking.proofs.Booking.TheLaws as booking-laws
use Rattle.booking.specs.contracts.Booking as booking
use Rattle.promise.specs.AsksNothing.{AsksNothing}
use Rattle.promise.specs.OneOutcome.{OneOutcome}
use Rattle.promise.proofs.OneOutcomeLaws.{both_are}
use Rattle.std.below.core.specs.contracts.clone.Clone+copy.TheImpl as clone
use Rattle.std.specs.declared.clone.Clone.{Ghosts as Copies}
use Rattle.workfile.specs.contracts.ArrivalRecord.TheImpl as arrival-record
use Rattle.workfile.specs.contracts.BookingRecord.TheImpl as booking-record
use Rattle.workfile.specs.declared.Record.{Ghosts as Kind}
use Rattle.reader.proofs.Reader.moved_on.Reads as moved_on
use Rattle.reader.proofs.Reader.new.Reads as new
use Rattle.reader.proofs.Reader.take.Reads as take
use Rattle.reader.proofs.record_from.Reads as record-from

pub new_one : OneOutcome new.Post
new_one l a x y at_x at_y p q = both_are p q

pub new_asks : AsksNothing new.Pre
new_asks l a given = tt

pub moved_on_one : OneOutcome moved_on.Post
moved_on_one l a x y at_x at_y p q = both_are p q

pub moved_on_asks : AsksNothing moved_on.Pre
moved_on_asks l a given = tt

-- of every type with the trait, as the check hands it to a function over all of them
module _ (T : RattleType) (laws : Laws T) (copied : IsCopy T) (kind : Kind T.Denot) (code : Dict) (copies : Copies T.Denot) (copying : Dict) where
  pub take_one : OneOutcome (take.Post T laws copied kind code copies copying)
  take_one l a x y at_x at_y p q = both_are p q

  pub record_from_one : OneOutcome (record-from.Post T laws copied kind code copies copying)
  record_from_one l a x y at_x at_y p q = both_are p q

  -- that holds no reference
  module _ (plain : T.lives ≡ []) where
    pub take_asks : AsksNothing (take.Pre T laws copied kind code copies copying)
    take_asks l a given = rw plain (⊑_static _)

    pub record_from_asks : AsksNothing (record-from.Pre T laws copied kind code copies copying)
    record_from_asks l a given = rw plain (⊑_static _)

-- and so of both
pub take_booking_one : OneOutcome (take.Post booking.the_row booking-laws.the_row_laws booking-laws.the_row_copy booking-record.ghosts booking-record.dict (clone.ghosts booking.the_row) (clone.dict booking.the_row))
take_booking_one l a x y at_x at_y p q = both_are p q

pub take_booking_asks : AsksNothing (take.Pre booking.the_row booking-laws.the_row_laws booking-laws.the_row_copy booking-record.ghosts booking-record.dict (clone.ghosts booking.the_row) (clone.dict booking.the_row))
take_booking_asks l a given = ⊑_static _

pub take_arrival_one : OneOutcome (take.Post arrival.the_row arrival-laws.the_row_laws arrival-laws.the_row_copy arrival-record.ghosts arrival-record.dict (clone.ghosts arrival.the_row) (clone.dict arrival.the_row))
take_arrival_one l a x y at_x at_y p q = both_are p q

pub take_arrival_asks : AsksNothing (take.Pre arrival.the_row arrival-laws.the_row_laws arrival-laws.the_row_copy arrival-record.ghosts arrival-record.dict (clone.ghosts arrival.the_row) (clone.dict arrival.the_row))
take_arrival_asks l a given = ⊑_static _

pub booking_from_one : OneOutcome (record-from.Post booking.the_row booking-laws.the_row_laws booking-laws.the_row_copy booking-record.ghosts booking-record.dict (clone.ghosts booking.the_row) (clone.dict booking.the_row))
booking_from_one l a x y at_x at_y p q = both_are p q

pub booking_from_asks : AsksNothing (record-from.Pre booking.the_row booking-laws.the_row_laws booking-laws.the_row_copy booking-record.ghosts booking-record.dict (clone.ghosts booking.the_row) (clone.dict booking.the_row))
booking_from_asks l a given = ⊑_static _

pub arrival_from_one : OneOutcome (record-from.Post arrival.the_row arrival-laws.the_row_laws arrival-laws.the_row_copy arrival-record.ghosts arrival-record.dict (clone.ghosts arrival.the_row) (clone.dict arrival.the_row))
arrival_from_one l a x y at_x at_y p q = both_are p q

pub arrival_from_asks : AsksNothing (record-from.Pre arrival.the_row arrival-laws.the_row_laws arrival-laws.the_row_copy arrival-record.ghosts arrival-record.dict (clone.ghosts arrival.the_row) (clone.dict arrival.the_row))
arrival_from_asks l a given = ⊑_static _
