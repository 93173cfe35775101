-- Laws of a booking's faults and share.
use Prim.Native.Nat.{ℕ, zero, suc, ◌*◌, ◌/◌, ◌%◌, ◌≤◌}
use borrow.Author.Tests.{eqb-true, eqb-false, eq-eqb, ne_eqb, le-ltb, ltb-false, not-false}
use lib.Dec.{eqb}
use mathlib.Core.Bool.{false}
use mathlib.Core.Path.{◌≡◌, ap}
use native.Mathlib.Nat.{mul-le-mul_right, mul-div-le, pos_of_ne-zero, div-add-mod}
use native.Mathlib.Omega.{arith}
use Rattle.clock.specs.declared.Length.{Length}
use Rattle.counting.proofs.TestLaws.{none_of_four}
use Rattle.booking.specs.declared.Booking.{Booking}
use Rattle.booking.specs.Share.{faulty_booking, share}

-- what a booking without a fault has
pub record Sound (H : Length) (b : Booking) : Type 0 where
  pub budget : 1 ≤ b.budget.ticks
  pub fits : b.budget.ticks ≤ b.period.ticks
  pub divides : b.period.ticks * (H.ticks / b.period.ticks) ≡ H.ticks

pub sound : (H : Length) (b : Booking) → faulty_booking H b ≡ false → Sound H b
sound H b e =
    let tests = none_of_four (eqb b.period.ticks 0) _ _ _ e in
    let r : H.ticks % b.period.ticks ≡ 0 = eqb-true _ _ (not-false _ tests.1) in
    record {
      budget = pos_of_ne-zero (eqb-false _ _ tests.2);
      fits = ltb-false _ _ tests.3;
      divides = omega (arith, div-add-mod H.ticks b.period.ticks);
    }

-- and a booking that has it has no fault
pub sound_unfaulty : (H : Length) (b : Booking) → Sound H b → faulty_booking H b ≡ false
sound_unfaulty H b s =
    rw (
      ne_eqb b.period.ticks 0 (λ e. omega (arith, s.budget, s.fits)),
      eq-eqb (H.ticks % b.period.ticks) 0 (omega (arith, s.divides, div-add-mod H.ticks b.period.ticks)),
      ne_eqb b.budget.ticks 0 (λ e. omega (arith, s.budget)),
      le-ltb b.period.ticks b.budget.ticks s.fits,
    )

-- Where T divides H the share is exact: share × T = Q × H. It is Q/T of the frame, with nothing rounded, which is why the rules may add
-- shares where the sources add fractions.
pub sound_exact : (H : Length) (b : Booking) → Sound H b → (share H b).ticks * b.period.ticks ≡ b.budget.ticks * H.ticks
sound_exact H b s = omega (arith, ap (λ (h : ℕ). b.budget.ticks * h) s.divides)

pub share_exact : (H : Length) (b : Booking) → faulty_booking H b ≡ false
    → (share H b).ticks * b.period.ticks ≡ b.budget.ticks * H.ticks
share_exact H b e = sound_exact H b (sound H b e)

-- with Q at most T a share is at most the frame
pub share_le_frame : (H : Length) (b : Booking) → b.budget.ticks ≤ b.period.ticks → (share H b).ticks ≤ H.ticks
share_le_frame H b h =
    omega (arith, mul-le-mul_right (H.ticks / b.period.ticks) h, mul-div-le H.ticks b.period.ticks)

-- a period that divides the frame is at most the frame
pub period_le_frame : (H : Length) (b : Booking) → Sound H b → 1 ≤ H.ticks → b.period.ticks ≤ H.ticks
period_le_frame H b s h = go (H.ticks / b.period.ticks) s.divides
  where
    go : (times : ℕ) → b.period.ticks * times ≡ H.ticks → b.period.ticks ≤ H.ticks
    go zero e = let no : ⊥ = omega arith in absurd no
    go (suc times) e = omega arith
