-- The total and the longest of a list of numbers.
use Rattle.std.specs.Prelude.{ℕ, ◌+◌, max, List, [], ◌∷◌}

unfoldable pub total : List ℕ → ℕ
total [] = 0
total (n ∷ l) = n + total l

unfoldable pub longest : List ℕ → ℕ
longest [] = 0
longest (n ∷ l) = max n (longest l)
