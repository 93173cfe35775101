-- Admission of a table (document 01, refusals 4 and 5, "The share of a server").
use Rattle.std.specs.Prelude.{ℕ, ltb, cond}
use Rattle.clock.specs.declared.Length.{Length}
use Rattle.counting.specs.First.{first}
use Rattle.counting.specs.Sum.{sum}
use Rattle.refusal.specs.Refusals.{Said, refused, accepted}
use Rattle.booking.specs.declared.Booking.{Booking}
use Rattle.booking.specs.Share.{faulty_booking, share}

-- a table: how many servers it has, and the booking of each
pub record Table : Type 0 where
  pub count : ℕ
  pub booking : ℕ → Booking

-- the first server that is faulty, or the count where none is
abbrev pub first_faulty : Length → Table → ℕ
first_faulty H t = first t.count (λ k. faulty_booking H (t.booking k))

-- the sum of the shares
abbrev pub shares : Length → Table → ℕ
shares H t = sum t.count (λ k. (share H (t.booking k)).ticks)

-- 4 at the first faulty server, then 5 where "the shares add up to more than H"
abbrev pub admission : Length → Table → Said (Unit {0})
admission H t =
    cond (ltb (first_faulty H t) t.count) (refused 4 (first_faulty H t))
    (cond (ltb H.ticks (shares H t)) (refused 5 0) accepted)
