-- Things one behind the other: how long they are, and when they are the same.
use Prim.Native.Nat.{ℕ, zero, suc, ◌*◌, ◌≤◌, ◌<◌}
use lib.ListN.{length, length-append}
use mathlib.Core.List.{List, ◌++◌}
use mathlib.Core.Path.{◌≡◌, refl, ap₂}
use native.Mathlib.Omega.{arith}
use Rattle.page.specs.Page.{each}

-- functions that agree below n give the same in turn
pub each_same : (n : ℕ) (f g : ℕ → List ℕ) → ((k : ℕ) → k < n → f k ≡ g k) → each n f ≡ each n g
unfolding each
each_same zero f g same = refl
each_same (suc n) f g same = ap₂ ◌++◌ (each_same n f g (λ k b. same k (omega arith))) (same n (omega arith))

-- n lists of at most k have at most n × k together
pub each_length : (n k : ℕ) (f : ℕ → List ℕ) → ((i : ℕ) → i < n → length (f i) ≤ k) → length (each n f) ≤ n * k
unfolding each
each_length zero k f short = omega arith
each_length (suc n) k f short =
    omega (arith, each_length n k f (λ i b. short i (omega arith)), short n (omega arith), length-append (each n f) (f n))
