-- How long a number and a line are.
use Prim.Native.Nat.{ℕ, zero, suc, ◌+◌, ◌/◌, ◌%◌, ◌^◌, ◌≤◌, ◌<◌}
use Prim.Native.String.{String}
use lib.ListN.{length, length-append}
use mathlib.Core.List.{List, [], ◌∷◌}
use mathlib.Core.Path.{◌≡◌, refl, ◌∙◌, ap}
use native.Mathlib.Decide.{dec_lt}
use native.Mathlib.Omega.{arith}
use Rattle.std.specs.Prelude.{codes}
use Rattle.text.specs.Line.{digit, decimal, Field, bytes_of, goes_on, line}
use Rattle.text.proofs.LineLaws.{decimal_last, decimal_more}

-- a number below 10 ^ (k + 1) has at most k + 1 digits
pub decimal_length : (k n : ℕ) → n < 10 ^ suc k → length (decimal n) ≤ suc k
decimal_length zero n h = rw (decimal_last n (omega arith)) (omega arith)
decimal_length (suc k) n h = go (dec_lt n 10) (decimal_length k (n / 10))
  where
    go : Dec (n < 10) → (n / 10 < 10 ^ suc k → length (decimal (n / 10)) ≤ suc k) → length (decimal n) ≤ suc (suc k)
    go (yes last) tenth = rw (decimal_last n last) (omega arith)
    go (no more) tenth =
        rw (decimal_more n (omega arith))
        (omega (arith, length-append (decimal (n / 10)) (digit (n % 10) ∷ []), tenth (omega arith)))

-- the rest of a line is as long as its fields, a space before each, and the line feed
abbrev pub widths : List Field → ℕ
widths [] = 1
widths (f ∷ more) = suc (length (bytes_of f) + widths more)

goes_on_length : (l : List Field) → length (goes_on l) ≡ widths l
goes_on_length [] = refl
goes_on_length (f ∷ more) =
    ap suc (length-append (bytes_of f) (goes_on more) ∙ ap (λ (n : ℕ). length (bytes_of f) + n) (goes_on_length more))

-- a line is as long as its first word and the rest
pub line_length : (first : String) (rest : List Field) → length (line first rest) ≡ length (codes first) + widths rest
line_length first rest =
    length-append (codes first) (goes_on rest) ∙ ap (λ (n : ℕ). length (codes first) + n) (goes_on_length rest)
