-- Each promise of this crate allows one outcome, and asks nothing.
use Rattle.promise.specs.AsksNothing.{AsksNothing}
use Rattle.promise.specs.OneOutcome.{OneOutcome}
use Rattle.promise.proofs.OneOutcomeLaws.{both_are}
use Rattle.summary.proofs.blank_records.Reads as blank-records
use Rattle.summary.proofs.interrupted_by.Reads as interrupted-by
use Rattle.summary.proofs.with_record.Reads as with-record

pub blank_records_one : OneOutcome blank-records.Post
blank_records_one l a x y at_x at_y p q = both_are p q

pub blank_records_asks : AsksNothing blank-records.Pre
blank_records_asks l a given = tt

pub with_record_one : OneOutcome with-record.Post
with_record_one l a x y at_x at_y p q = both_are p q

pub with_record_asks : AsksNothing with-record.Pre
with_record_asks l a given = tt

pub interrupted_by_one : OneOutcome interrupted-by.Post
interrupted_by_one l a x y at_x at_y p q = both_are p q

pub interrupted_by_asks : AsksNothing interrupted-by.Pre
interrupted_by_asks l a given = tt
