-- The turns of a loop that counts from 0 up to n, as a walk takes them.
use Prim.Native.Nat.{ℕ, ◌+◌, ◌-◌, ◌<◌, ◌≤◌, ◌^◌}
use mathlib.Core.Bool.{true, false}
use mathlib.Core.Path.{◌≡◌}
use mathlib.Core.WellFounded.InvImage
use mathlib.Core.WellFounded.{WellFounded}
use borrow.Author.Tests.{ltb-true, ltb-false}
use lib.Dec.{ltb}
use lib.WfN.{lt-wf_rel}
use native.Mathlib.Nat.{lt_of_le_of_lt}
use native.Mathlib.Omega.{arith}

-- a turn begins after k of the n
abbrev pub Begun : ℕ → Type 0
Begun n = (k : ℕ) × (k ≤ n)

-- fewer are left
abbrev pub Fewer : (n : ℕ) → Begun n → Begun n → Type 0
Fewer n u v = n - u.0 < n - v.0

pub fewer_ends : (n : ℕ) → WellFounded (Fewer n)
fewer_ends n = InvImage.wf (λ (u : Begun n). n - u.0) lt-wf_rel.wf

-- where the test holds, another turn begins
module _ (n : ℕ) (u : Begun n) (e : ltb u.0 n ≡ true) where
  abbrev pub next : Begun n
  next = (u.0 + 1, omega (arith, ltb-true u.0 n e))

  pub next_fewer : Fewer n next u
  next_fewer = omega (arith, ltb-true u.0 n e)

  pub fits_still : n < 2 ^ 64 → u.0 + 1 < 2 ^ 64
  fits_still fits = lt_of_le_of_lt next.1 fits

-- and where it fails, all are taken
pub all_taken : (n : ℕ) (u : Begun n) → ltb u.0 n ≡ false → u.0 ≡ n
all_taken n u e = omega (arith, ltb-false u.0 n e, u.1)
