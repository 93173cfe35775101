-- Admission case by case, and what it gives of an admitted table.
use Prim.Native.Nat.{ℕ, ◌*◌, ◌/◌, ◌≤◌, ◌<◌, zero-le}
use borrow.Author.Tests.{ltb-false}
use lib.Dec.{ltb}
use mathlib.Core.Bool.{true, false, cond}
use mathlib.Core.Path.{◌≡◌, refl, sym, ◌∙◌, ap, ap₂, subst}
use native.Mathlib.Nat.{le_trans, le_of_mul-le-mul_right, mul-le-mul_right}
use native.Mathlib.Omega.{arith}
use Rattle.clock.specs.declared.Length.{Length}
use Rattle.counting.proofs.FirstLaws.{first_is, first_none, first_before, first_same}
use Rattle.counting.proofs.SumLaws.{sum_mono, sum_same, sum_times}
use Rattle.counting.specs.Sum.{sum}
use Rattle.refusal.proofs.AcceptedLaws.{accepted_test}
use Rattle.refusal.specs.Refusals.{refused, accepted}
use Rattle.std.specs.Prelude.{Option, Some, None, SomeIff, MatchOption}
use Rattle.booking.specs.Admission.{Table, first_faulty, shares, admission}
use Rattle.booking.specs.declared.Booking.{Booking}
use Rattle.booking.specs.Share.{faulty_booking, share}
use Rattle.booking.proofs.ShareLaws.{Sound, sound}

module _ (H : Length) (t : Table) where
  -- none of the first k servers is faulty
  abbrev pub NoneFaulty : ℕ → Type 0
  NoneFaulty k = (j : ℕ) → j < k → faulty_booking H (t.booking j) ≡ false

  pub first_found : {k : ℕ} → NoneFaulty k → k < t.count → faulty_booking H (t.booking k) ≡ true → first_faulty H t ≡ k
  first_found {k} none h f = first_is t.count (λ j. faulty_booking H (t.booking j)) k h f none

  pub none_found : {k : ℕ} → NoneFaulty k → k ≡ t.count → first_faulty H t ≡ k
  none_found {k} none e = first_none t.count (λ j. faulty_booking H (t.booking j)) (subst NoneFaulty e none) ∙ sym e

  -- and so what is found where the first one is sought
  pub first_told : (found : Option ℕ)
      → MatchOption found ((k : ℕ) → 0 ≤ k → k < t.count → faulty_booking H (t.booking k) ≡ false)
      (λ k. (0 ≤ k) × (k < t.count) × (faulty_booking H (t.booking k) ≡ true)
      × ((j : ℕ) → 0 ≤ j → j < k → faulty_booking H (t.booking j) ≡ false))
      → SomeIff found (first_faulty H t < t.count) (first_faulty H t)
  first_told None none = λ less. omega (arith, less, none_found (λ j b. none j zero-le b) refl)
  first_told (Some k) at =
      let is = first_found (λ j b. at.3 j zero-le b) at.1 at.2 in
      (omega (arith, at.1, is), sym is)

  pub none_faulty : t.count ≤ first_faulty H t → NoneFaulty t.count
  none_faulty e k h = first_before t.count (λ j. faulty_booking H (t.booking j)) k (le_trans h e)

  -- what admission gives
  pub record Admitted : Type 0 where
    pub sound : (k : ℕ) → k < t.count → Sound H (t.booking k)
    pub within : shares H t ≤ H.ticks

  pub admitted : admission H t ≡ accepted → Admitted
  admitted e =
      let four = accepted_test 4 (first_faulty H t) (ltb (first_faulty H t) t.count) _ e in
      let five = accepted_test 5 0 _ accepted four.1 in
      record {
        sound = λ k h.
            sound H (t.booking k) (none_faulty (ltb-false _ _ four.0) k h);
        within = ltb-false _ _ five.0;
      }

-- each share is its part of the frame: of a length M that the period divides, as many times as `times` says, it is Q × times
part_exact : (H : Length) (t : Table) (M : ℕ) (times : ℕ → ℕ) → Admitted H t → (k : ℕ) → k < t.count
    → times k * (t.booking k).period.ticks ≡ M
    → H.ticks * ((t.booking k).budget.ticks * times k) ≤ M * (share H (t.booking k)).ticks
part_exact H t M times ok k b divides =
    let Q = (t.booking k).budget.ticks in
    omega (
      arith,
      ap (λ (z : ℕ). Q * times k * z) (ok.sound k b).divides,
      ap (λ (z : ℕ). Q * (H.ticks / (t.booking k).period.ticks) * z) divides,
    )

-- Admission is "exactly 'the sum of Q/T is at most 1' of the sources". Without fractions: whatever M all periods divide, as many times as
-- `times` says, the sum of Q × (M / T) is at most M.
pub at_most_one : (H : Length) (t : Table) → 1 ≤ H.ticks → admission H t ≡ accepted → (M : ℕ) (times : ℕ → ℕ)
    → ((k : ℕ) → k < t.count → times k * (t.booking k).period.ticks ≡ M)
    → sum t.count (λ k. (t.booking k).budget.ticks * times k) ≤ M
at_most_one H t some e M times divides =
    let ok = admitted H t e in
    le_of_mul-le-mul_right {k = H.ticks}
    (omega (
      arith,
      sum_times t.count H.ticks (λ k. (t.booking k).budget.ticks * times k),
      sum_mono t.count (λ k. H.ticks * ((t.booking k).budget.ticks * times k)) (λ k. M * (share H (t.booking k)).ticks)
          (λ k b. part_exact H t M times ok k b (divides k b)),
      sum_times t.count M (λ k. (share H (t.booking k)).ticks),
      mul-le-mul_right M ok.within,
    ))
    some

-- Admission looks at no booking but the table's own.
module _ (H : Length) (n : ℕ) {b b' : ℕ → Booking} (same : (k : ℕ) → k < n → b k ≡ b' k) where
  pub first_faulty_same : first_faulty H (record { count = n; booking = b }) ≡ first_faulty H (record { count = n; booking = b' })
  first_faulty_same = first_same n (λ k. faulty_booking H (b k)) (λ k. faulty_booking H (b' k)) (λ k l. ap (faulty_booking H) (same k l))

  pub shares_same : shares H (record { count = n; booking = b }) ≡ shares H (record { count = n; booking = b' })
  shares_same = sum_same n (λ k. (share H (b k)).ticks) (λ k. (share H (b' k)).ticks) (λ k l. ap (λ (x : Booking). (share H x).ticks) (same k l))

  pub admission_same : admission H (record { count = n; booking = b }) ≡ admission H (record { count = n; booking = b' })
  admission_same =
      ap₂ (λ (f s : ℕ). cond (ltb f n) (refused 4 f) (cond (ltb H.ticks s) (refused 5 0) accepted)) first_faulty_same shares_same
