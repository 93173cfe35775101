-- Section "Refusal numbers" of document 01: the number and the place of each refusal, and what an answer says on paper.
use Rattle.std.specs.Prelude.{ℕ, Result, Ok, Err}
use Rattle.refusal.specs.declared.Refusal.{Refusal}
use Rattle.refusal.specs.declared.Refusal.TheVariants.{FileLength, Sizes, Layout, FaultyServer, Shares, FaultyArrival, BackwardArrival, LateArrival, FinishList, ClockEnd, WaitingWork}

-- the table, row by row: "No." and "Place"
abbrev pub row_of : Refusal → ℕ × ℕ
row_of FileLength = (1, 0)
row_of Sizes = (2, 0)
row_of Layout = (3, 0)
row_of (FaultyServer k) = (4, k)
row_of Shares = (5, 0)
row_of (FaultyArrival k) = (6, k)
row_of (BackwardArrival k) = (7, k)
row_of (LateArrival k) = (8, k)
row_of FinishList = (9, 0)
row_of ClockEnd = (10, 0)
row_of WaitingWork = (11, 0)

abbrev pub number_of : Refusal → ℕ
number_of r = (row_of r).0

abbrev pub place_of : Refusal → ℕ
place_of r = (row_of r).1

-- what the document says of an outcome: it was refused with a number and a place, or it gave a value
pub data Said (A : Type 0) : Type 0 where
  refused : (number place : ℕ) → Said A
  gave : A → Said A

-- a judgement gives nothing beside that it accepts
abbrev pub accepted : Said (Unit {0})
accepted = gave tt

-- what each case of an answer says
abbrev pub on_paper : {A : Type 0} → Result A Refusal → Said A
on_paper (Ok a) = gave a
on_paper (Err r) = refused (number_of r) (place_of r)

-- one judgement and then, where it accepts, another
abbrev pub and_then : Said (Unit {0}) → Said (Unit {0}) → Said (Unit {0})
and_then (refused number place) rest = refused number place
and_then (gave u) rest = rest
