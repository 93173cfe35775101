-- The record where a reader stands that was sent to a block and on to a record is the record at that byte; behind the end both have every number 0.
use Prim.Native.Nat.{ℕ, ◌+◌, ◌≤◌}
use denote.Ref.{Bor}
use lib.ListN.{length}
use mathlib.Core.List.{List}
use mathlib.Core.Path.{◌≡◌}
use native.Mathlib.Omega.{arith}
use Rattle.workfile.proofs.LayoutLaws.{up_to_end}
use Rattle.workfile.specs.Layout.{booking_at, arrival_at}
use Rattle.workfile.specs.contracts.ArrivalRecord.TheImpl.Laws as arrival
use Rattle.workfile.specs.contracts.BookingRecord.TheImpl.Laws as booking
use Rattle.reader.specs.Reader.{reader_of, moved_on}

-- of any kind of record of which all behind the end are one
record_at_sent : {X : Type 0} (of : List ℕ → ℕ → X) (nothing : X) → ((file : List ℕ) (at : ℕ) → length file ≤ at → of file at ≡ nothing)
    → (s : Bor (List ℕ)) (block further : ℕ)
    → of s.now (moved_on (moved_on (reader_of s) block) further).at ≡ of s.now (block + further)
record_at_sent of nothing behind s block further = up_to_end of nothing behind s.now _ _ (omega arith)

pub booking_at_sent : (s : Bor (List ℕ)) (block further : ℕ)
    → booking_at s.now (moved_on (moved_on (reader_of s) block) further).at ≡ booking_at s.now (block + further)
booking_at_sent = record_at_sent booking_at _ booking.behind-law

pub arrival_at_sent : (s : Bor (List ℕ)) (block further : ℕ)
    → arrival_at s.now (moved_on (moved_on (reader_of s) block) further).at ≡ arrival_at s.now (block + further)
arrival_at_sent = record_at_sent arrival_at _ arrival.behind-law
