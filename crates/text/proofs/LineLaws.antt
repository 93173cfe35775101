-- A number in decimal, digit by digit.
use Prim.Native.Nat.{ℕ, zero, suc, ◌/◌, ◌%◌, ◌≤◌, ◌<◌}
use borrow.Author.Tests.{lt-ltb, le-ltb}
use mathlib.Core.List.{List, [], ◌∷◌, ◌++◌}
use mathlib.Core.Path.{◌≡◌, ◌∙◌, ap}
use native.Mathlib.Decide.{dec_lt}
use native.Mathlib.Nat.{not-suc-le-zero}
use native.Mathlib.Omega.{arith}
use Rattle.text.specs.Line.{digit, digits_up_to, decimal}

-- one step
up_to_last : (most n : ℕ) → n < 10 → digits_up_to (suc most) n ≡ digit n ∷ []
unfolding digits_up_to
up_to_last most n h = rw (lt-ltb n 10 h)

up_to_more : (most n : ℕ) → 10 ≤ n → digits_up_to (suc most) n ≡ digits_up_to most (n / 10) ++ digit (n % 10) ∷ []
unfolding digits_up_to
up_to_more most n h = rw (le-ltb n 10 h)

-- any bound above the number gives the same
up_to_enough : (k j n : ℕ) → n < k → n < j → digits_up_to k n ≡ digits_up_to j n
up_to_enough zero j n a b = absurd (not-suc-le-zero a)
up_to_enough (suc k) zero n a b = absurd (not-suc-le-zero b)
up_to_enough (suc k) (suc j) n a b = go (dec_lt n 10) (up_to_enough k j (n / 10))
  where
    go : Dec (n < 10) → (n / 10 < k → n / 10 < j → digits_up_to k (n / 10) ≡ digits_up_to j (n / 10))
        → digits_up_to (suc k) n ≡ digits_up_to (suc j) n
    go (yes h) tenth = rw (up_to_last k n h, up_to_last j n h)
    go (no h) tenth =
        rw (up_to_more k n (omega arith), up_to_more j n (omega arith))
        (ap (λ (l : List ℕ). l ++ digit (n % 10) ∷ []) (tenth (omega arith) (omega arith)))

pub decimal_last : (n : ℕ) → n < 10 → decimal n ≡ digit n ∷ []
unfolding decimal
decimal_last n h = up_to_last n n h

pub decimal_more : (n : ℕ) → 10 ≤ n → decimal n ≡ decimal (n / 10) ++ digit (n % 10) ∷ []
unfolding decimal
decimal_more n h =
    up_to_more n n h
    ∙ ap (λ (l : List ℕ). l ++ digit (n % 10) ∷ []) (up_to_enough n (suc (n / 10)) (n / 10) (omega arith) (omega arith))
