-- How the shares are taken off what is left line by line, what the foot of a sheet says, and that the sheet of a table stands for the table.
use Prim.Native.Nat.{ℕ, suc, ◌+◌, ◌-◌, ◌≤◌, ◌<◌}
use borrow.Author.Tests.{lt-ltb, le-ltb}
use lib.Dec.{ltb}
use mathlib.Core.Bool.{cond}
use mathlib.Core.Path.{◌≡◌, ◌∙◌, ap, ap₂, subst}
use native.Mathlib.Nat.{le_refl}
use native.Mathlib.Numerals.{add-one}
use native.Mathlib.Omega.{arith}
use Rattle.clock.specs.Clock.{ticks}
use Rattle.clock.specs.declared.Length.{Length}
use Rattle.counting.proofs.FirstLaws.{first_none}
use Rattle.counting.proofs.PlacesLaws.{get_d_places}
use Rattle.counting.proofs.SumLaws.{sum_first}
use Rattle.counting.specs.Sum.{sum}
use Rattle.refusal.specs.declared.Refusal.TheVariants.{Shares}
use Rattle.sizes.specs.Sizes.{most_servers}
use Rattle.std.specs.Prelude.{Ok, Err}
use Rattle.booking.specs.Admission.{Table, admission, first_faulty, shares}
use Rattle.booking.specs.declared.Booking.{Booking}
use Rattle.booking.specs.declared.Sheet.{Sheet}
use Rattle.booking.specs.Share.{booked, faulty_booking, share}
use Rattle.booking.specs.Sheet.{left_of, sheet_of, table_on}
use Rattle.booking.specs.Working.Foot.{foot_of}
use Rattle.booking.proofs.AdmissionLaws.{Admitted, admission_same, first_faulty_same, shares_same}
use Rattle.booking.proofs.ShareLaws.{sound_unfaulty}

module _ (H : Length) (t : Table) where
  -- so much of the frame is left behind line k: with the shares above it, it is the frame
  abbrev pub LeftBehind : ℕ → ℕ → Type 0
  LeftBehind k left = left + sum k (λ j. (share H (t.booking j)).ticks) ≡ H.ticks

  -- "they start from the frame"
  pub left_first : LeftBehind 0 H.ticks
  unfolding sum
  left_first = omega arith

  -- the share of the booking that was read at line k
  share_read : {k : ℕ} {b : Booking} {r : Length} → b ≡ t.booking k → r ≡ share H b → r.ticks ≡ (share H (t.booking k)).ticks
  share_read read e = ap (λ (l : Length). l.ticks) (e ∙ ap (share H) read)

  -- "and take each share off what is left"
  pub left_next : {k left : ℕ} {b : Booking} {r : Length} → b ≡ t.booking k → r ≡ share H b → r.ticks ≤ left → LeftBehind k left
      → LeftBehind (k + 1) (left - r.ticks)
  unfolding sum
  left_next {k} {left} {b} {r} read e enough is = rw add-one (omega (arith, is, enough, share_read {k = k} read e))

  -- "no number in it is ever above H"; that a share is not, is `share_le_frame` of ShareLaws
  pub left_within : (k left : ℕ) → LeftBehind k left → left ≤ H.ticks
  left_within k left is = omega (arith, is)

  -- the foot where no booking is faulty
  module _ (none : t.count ≤ first_faulty H t) where
    foot_unfaulty : foot_of H t ≡ cond (ltb H.ticks (shares H t)) (Err Shares) (Ok (ticks (H.ticks - shares H t)))
    foot_unfaulty = rw (le-ltb (first_faulty H t) t.count none)

    -- a share that is more than what is left
    pub left_over : {k left : ℕ} {b : Booking} {r : Length} → k < t.count → b ≡ t.booking k → r ≡ share H b → left < r.ticks
        → LeftBehind k left
        → foot_of H t ≡ Err Shares
    unfolding sum
    left_over {k} {left} {b} {r} below read e less is =
        let first = sum_first t.count (suc k) (λ j. (share H (t.booking j)).ticks) below in
        rw (foot_unfaulty, lt-ltb H.ticks (shares H t) (omega (arith, is, less, share_read {k = k} read e, first)))

    -- all of them taken off
    pub left_last : {k left : ℕ} → k ≡ t.count → LeftBehind k left → foot_of H t ≡ Ok (ticks left)
    left_last {k} {left} e is =
        let whole : LeftBehind t.count left = subst (λ (n : ℕ). LeftBehind n left) e is in
        rw (foot_unfaulty, le-ltb H.ticks (shares H t) (omega (arith, whole))) (ap (λ (n : ℕ). Ok (ticks n)) (omega (arith, whole)))

-- The sheet of a table stands for it: there is room for all that a table may have.
module _ (H : Length) (t : Table) (room : t.count ≤ most_servers) {s : Sheet} (read : s ≡ sheet_of H t) where
  same_line : (k : ℕ) → k < t.count → (table_on (sheet_of H t)).booking k ≡ t.booking k
  same_line k below = get_d_places most_servers t.booking k (booked 0 0) (omega (arith, below, room))

  pub sheet_admission : admission s.frame (table_on s) ≡ admission H t
  sheet_admission = ap (λ (x : Sheet). admission x.frame (table_on x)) read ∙ admission_same H t.count same_line

  pub sheet_left : left_of s.frame (table_on s) ≡ left_of H t
  sheet_left =
      ap (λ (x : Sheet). left_of x.frame (table_on x)) read
      ∙ ap₂ (λ (f u : ℕ). cond (ltb f t.count) (ticks 0) (ticks (H.ticks - u))) (first_faulty_same H t.count same_line)
      (shares_same H t.count same_line)

-- of an admitted table what is left and the shares are the frame
pub admitted_left : (H : Length) (t : Table) → Admitted H t → (left_of H t).ticks + shares H t ≡ H.ticks
admitted_left H t ok =
    rw (
      first_none t.count (λ j. faulty_booking H (t.booking j)) (λ j b. sound_unfaulty H (t.booking j) (ok.sound j b)),
      le-ltb t.count t.count (le_refl t.count),
    )
    (omega (arith, ok.within))
