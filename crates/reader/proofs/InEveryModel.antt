-- The promises of the methods once more, as laws of their clauses in every model of the logic.
use base.Logic.{emp, emp∗, id⊢, mono_l, mono_r, via}
use contract.BorrowLft.{◌⊑◌, ⊑_static}
use contract.Lifetimes.{lft_at}
use contract.Monad.{fact, fact_i}
use denote.RattleType.{RattleType}
use mathlib.Core.List.{[]}
use mathlib.Core.Path.{◌≡◌, refl}
use mir.Syntax.{Dict}
use Rattle.arrival.specs.contracts.Arrival as arrival
use Rattle.booking.specs.contracts.Booking as booking
use Rattle.std.below.core.specs.contracts.clone.Clone+copy.TheImpl as clone
use Rattle.std.specs.declared.clone.Clone.{Ghosts as Copies}
use Rattle.walks.proofs.AsksNothingLaws.{no_premise}
use Rattle.walks.specs.AsksNothing.{AsksNothingWalked}
use Rattle.walks.specs.OneOutcome.{OneOutcomeWalked}
use Rattle.walks.proofs.OneOutcomeLaws.{says_result}
use Rattle.workfile.specs.contracts.ArrivalRecord.TheImpl as arrival-record
use Rattle.workfile.specs.contracts.BookingRecord.TheImpl as booking-record
use Rattle.workfile.specs.declared.Record.{Ghosts as Kind}
use Rattle.reader.specs.contracts.Reader.moved_on as moved_on
use Rattle.reader.specs.contracts.Reader.new as new
use Rattle.reader.specs.contracts.Reader.take as take

pub new_one : OneOutcomeWalked new.ended (λ M 𝓤. new.clauses)
new_one = says_result new.ended (λ M 𝓤. new.clauses) _ (λ M 𝓤 𝓛 mem run κs a g r e. id⊢ 𝓤 _)

pub new_asks : AsksNothingWalked new.ended (λ M 𝓤. new.clauses)
new_asks M 𝓤 𝓛 mem run κs a given = (tt, no_premise 𝓤)

pub moved_on_one : OneOutcomeWalked moved_on.ended (λ M 𝓤. moved_on.clauses)
moved_on_one = says_result moved_on.ended (λ M 𝓤. moved_on.clauses) _ (λ M 𝓤 𝓛 mem run κs a g r e. id⊢ 𝓤 _)

pub moved_on_asks : AsksNothingWalked moved_on.ended (λ M 𝓤. moved_on.clauses)
moved_on_asks M 𝓤 𝓛 mem run κs a given = (tt, no_premise 𝓤)

-- of every type with the trait
module _ (T : RattleType) (kind : Kind T.Denot) (code : Dict) (copies : Copies T.Denot) (copying : Dict) where
  pub take_one : OneOutcomeWalked (take.ended T kind code copies copying) (λ M 𝓤. take.clauses T kind code copies copying)
  take_one =
      says_result (take.ended T kind code copies copying) (λ M 𝓤. take.clauses T kind code copies copying) _
      (λ M 𝓤 𝓛 mem run κs a g r e. id⊢ 𝓤 _)

  -- that holds no reference
  pub take_asks : T.lives ≡ [] → AsksNothingWalked (take.ended T kind code copies copying) (λ M 𝓤. take.clauses T kind code copies copying)
  take_asks plain M 𝓤 𝓛 mem run κs a given =
      let outlives : Type 0 = lft_at 2 1 tt κs ⊑ T.lives in
      let outlived : outlives = rw plain (⊑_static _) in
      (tt, λ P. via 𝓤 _ (emp∗ 𝓤 P) (via 𝓤 _ (mono_l 𝓤 P (fact_i 𝓤 outlives (emp 𝓤) outlived)) (mono_r 𝓤 (fact 𝓤 outlives) (no_premise 𝓤 P))))

-- and so of both
pub take_booking_one : OneOutcomeWalked (take.ended booking.the_row booking-record.ghosts booking-record.dict (clone.ghosts booking.the_row) (clone.dict booking.the_row)) (λ M 𝓤. take.clauses booking.the_row booking-record.ghosts booking-record.dict (clone.ghosts booking.the_row) (clone.dict booking.the_row))
take_booking_one = take_one booking.the_row booking-record.ghosts booking-record.dict (clone.ghosts booking.the_row) (clone.dict booking.the_row)

pub take_booking_asks : AsksNothingWalked (take.ended booking.the_row booking-record.ghosts booking-record.dict (clone.ghosts booking.the_row) (clone.dict booking.the_row)) (λ M 𝓤. take.clauses booking.the_row booking-record.ghosts booking-record.dict (clone.ghosts booking.the_row) (clone.dict booking.the_row))
take_booking_asks = take_asks booking.the_row booking-record.ghosts booking-record.dict (clone.ghosts booking.the_row) (clone.dict booking.the_row) refl

pub take_arrival_one : OneOutcomeWalked (take.ended arrival.the_row arrival-record.ghosts arrival-record.dict (clone.ghosts arrival.the_row) (clone.dict arrival.the_row)) (λ M 𝓤. take.clauses arrival.the_row arrival-record.ghosts arrival-record.dict (clone.ghosts arrival.the_row) (clone.dict arrival.the_row))
take_arrival_one = take_one arrival.the_row arrival-record.ghosts arrival-record.dict (clone.ghosts arrival.the_row) (clone.dict arrival.the_row)

pub take_arrival_asks : AsksNothingWalked (take.ended arrival.the_row arrival-record.ghosts arrival-record.dict (clone.ghosts arrival.the_row) (clone.dict arrival.the_row)) (λ M 𝓤. take.clauses arrival.the_row arrival-record.ghosts arrival-record.dict (clone.ghosts arrival.the_row) (clone.dict arrival.the_row))
take_arrival_asks = take_asks arrival.the_row arrival-record.ghosts arrival-record.dict (clone.ghosts arrival.the_row) (clone.dict arrival.the_row) refl
