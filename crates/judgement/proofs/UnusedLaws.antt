-- Files that differ in unused bytes alone have the same header and the same records.
use Prim.Native.Nat.{ℕ, ◌+◌, ◌*◌, ◌≤◌, ◌<◌}
use lib.ListN.{get_or}
use mathlib.Core.List.{List}
use mathlib.Core.Logic.{inl, inr}
use mathlib.Core.Path.{◌≡◌, ◌∙◌, ap, ap₂}
use native.Mathlib.Omega.{arith}
use Rattle.booking.specs.Share.{booked}
use Rattle.clock.specs.Clock.{moment, ticks}
use Rattle.numbers.specs.Word.{number_at}
use Rattle.sizes.specs.Sizes.{arrival_bytes, server_bytes}
use Rattle.workfile.specs.Layout.{arrival_at, booking_at, header}
use Rattle.judgement.specs.Unused.{SameUse}

-- a number by its four bytes
number_same : (file other : List ℕ) (at : ℕ) → ((p : ℕ) → at ≤ p → p < at + 4 → get_or file p 0 ≡ get_or other p 0)
    → number_at file at ≡ number_at other at
unfolding number_at
number_same file other at same =
    omega (
      arith,
      same at (omega arith) (omega arith),
      same (at + 1) (omega arith) (omega arith),
      same (at + 2) (omega arith) (omega arith),
      same (at + 3) (omega arith) (omega arith),
    )

module _ {file other : List ℕ} (same : SameUse file other) where
  word_same : (at : ℕ) → at + 4 ≤ 24 → number_at file at ≡ number_at other at
  word_same at le = number_same file other at (λ p l b. same.bytes p (inl (omega arith)))

  pub header_same : header file ≡ header other
  unfolding header
  header_same =
      rw (
        word_same 0 (omega arith),
        word_same 4 (omega arith),
        word_same 8 (omega arith),
        word_same 12 (omega arith),
        word_same 16 (omega arith),
        word_same 20 (omega arith),
      )

  pub booking_same : (k : ℕ) → k < (header file).servers.count
      → booking_at file ((header file).servers.offset + server_bytes * k) ≡ booking_at other ((header file).servers.offset + server_bytes * k)
  unfolding booking_at
  booking_same k b =
      let at = (header file).servers.offset + server_bytes * k in
      ap₂ booked (number_same file other at (λ p l c. same.bytes p (inr (inl (omega arith, omega arith)))))
      (number_same file other (at + 4) (λ p l c. same.bytes p (inr (inl (omega arith, omega arith)))))

  pub arrival_same : (k : ℕ) → k < (header file).arrivals.count
      → arrival_at file ((header file).arrivals.offset + arrival_bytes * k) ≡ arrival_at other ((header file).arrivals.offset + arrival_bytes * k)
  unfolding arrival_at
  arrival_same k b =
      let at = (header file).arrivals.offset + arrival_bytes * k in
      ap₂ (λ (t i : ℕ). record { moment = moment t; server = i; cost = ticks (number_at file (at + 8)) })
      (number_same file other at (λ p l c. same.bytes p (inr (inr (omega arith, omega arith)))))
      (number_same file other (at + 4) (λ p l c. same.bytes p (inr (inr (omega arith, omega arith)))))
      ∙ ap (λ (c : ℕ). record { moment = moment (number_at other at); server = number_at other (at + 4); cost = ticks c })
      (number_same file other (at + 8) (λ p l c. same.bytes p (inr (inr (omega arith, omega arith)))))
