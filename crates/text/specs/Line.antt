-- Lines of text, as bytes: words and numbers with one space between two of them, and a line feed at the end of each line, as document 01
-- prints File P's report.
use Prim.Native.Char.{code}
use Rattle.std.specs.Prelude.{ℕ, zero, suc, ◌+◌, ◌/◌, ◌%◌, ltb, cond, List, [], ◌∷◌, ◌++◌, codes}
use Prim.Native.String.{String}

-- the byte of a digit
abbrev pub digit : ℕ → ℕ
digit d = code "0" + d

-- A number in decimal: one digit where it is below 10, and else a tenth of it in decimal and its last digit. `most` bounds how many
-- digits there are; n + 1 is more than enough, as each step divides by 10 (`decimal_last`, `decimal_more` of LineLaws: the bound cuts nothing).
unfoldable pub digits_up_to : ℕ → ℕ → List ℕ
digits_up_to zero n = []
digits_up_to (suc most) n = cond (ltb n 10) (digit n ∷ []) (digits_up_to most (n / 10) ++ digit (n % 10) ∷ [])

unfoldable pub decimal : ℕ → List ℕ
decimal n = digits_up_to (suc n) n

-- what stands in a line; a word is ASCII
pub data Field : Type 0 where
  word : String → Field
  number : ℕ → Field

abbrev pub bytes_of : Field → List ℕ
bytes_of (word w) = codes w
bytes_of (number n) = decimal n

-- the rest of a line: a space before each field, and a line feed at the end
abbrev pub goes_on : List Field → List ℕ
goes_on [] = code "\n" ∷ []
goes_on (f ∷ more) = code " " ∷ (bytes_of f ++ goes_on more)

-- a line begins with a word
abbrev pub line : String → List Field → List ℕ
line first rest = codes first ++ goes_on rest
