-- Laws of the total and the longest of a list of numbers.
use Prim.Native.Nat.{ℕ, ◌+◌, ◌*◌, ◌≤◌, max}
use lib.ListN.{length}
use mathlib.Core.List.{List, [], ◌∷◌, ◌++◌}
use mathlib.Core.Path.{◌≡◌}
use native.Mathlib.Omega.{arith}
use Rattle.counting.specs.Totals.{total, longest}

-- of two lists, one after the other
pub total_append : (a b : List ℕ) → total (a ++ b) ≡ total a + total b
unfolding total
total_append [] b = omega arith
total_append (n ∷ a) b = omega (arith, total_append a b)

pub longest_append : (a b : List ℕ) → longest (a ++ b) ≡ max (longest a) (longest b)
unfolding longest
longest_append [] b = omega arith
longest_append (n ∷ a) b = omega (arith, longest_append a b)

-- numbers that are at most k add up to at most k for each
pub total_le : (k : ℕ) (l : List ℕ) → longest l ≤ k → total l ≤ length l * k
unfolding total longest
total_le k [] h = omega arith
total_le k (n ∷ l) h = omega (arith, total_le k l (omega arith))
