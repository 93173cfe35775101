-- Laws of the numbers of a work file.
use Prim.Native.Nat.{ℕ, ◌+◌, ◌*◌, ◌≤◌, ◌<◌}
use lib.ListN.{drop, get_or, length, get_or-eq_default}
use mathlib.Core.List.{List}
use mathlib.Core.Path.{◌≡◌, ◌∙◌}
use native.Mathlib.Nat.{add-zero}
use native.Mathlib.Omega.{arith}
use Rattle.std.proofs.Math.Seq.{take-length}
use Rattle.std.proofs.lemmas.List.{get_or-drop, length-drop}
use Rattle.std.specs.List.{slice_range}
use Rattle.numbers.specs.Word.{number_at}

-- the bytes from a place on tell the number that starts there
pub word_of_rest : (file : List ℕ) (at : ℕ) {rest : List ℕ} → rest ≡ slice_range file at (length file)
    → get_or rest 0 0 + 256 * get_or rest 1 0 + 65_536 * get_or rest 2 0 + 16_777_216 * get_or rest 3 0 ≡ number_at file at
unfolding number_at
word_of_rest file at {rest} is =
    let whole : rest ≡ drop at file = is ∙ rw (← length-drop at file) (take-length (drop at file)) in
    rw (whole, get_or-drop at file 0 0, add-zero, get_or-drop at file 1 0, get_or-drop at file 2 0, get_or-drop at file 3 0)

-- behind the end there is nothing, which counts 0
pub word_behind : (file : List ℕ) (at : ℕ) → length file ≤ at → number_at file at ≡ 0
unfolding number_at
word_behind file at h =
    rw (
      get_or-eq_default file 0 {n = at} h,
      get_or-eq_default file 0 {n = at + 1} (omega arith),
      get_or-eq_default file 0 {n = at + 2} (omega arith),
      get_or-eq_default file 0 {n = at + 3} (omega arith),
    )

-- of bytes a number has 32 bits
pub word_fits : (file : List ℕ) (at : ℕ) → ((i : ℕ) → get_or file i 0 < 256) → number_at file at < 4_294_967_296
unfolding number_at
word_fits file at byte = omega (arith, byte at, byte (at + 1), byte (at + 2), byte (at + 3))
