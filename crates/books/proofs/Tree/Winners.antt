-- A winner tree with n leaves, in a list of 128 numbers: the keys of as many servers stand at places n to 2n - 1, and each place p from 1
-- to n - 1 holds the lesser of those at 2p and 2p + 1. Place 0 and those from 2n on are unused.
use Prim.Native.Nat.{ℕ, zero, suc, ◌+◌, ◌*◌, ◌-◌, ◌/◌, ◌^◌, ◌≤◌, ◌<◌, max, min}
use borrow.Author.Tests.{ltb-false, ltb-true}
use lib.Dec.{ltb}
use lib.ListN.{length, get_or, set, replicate, length-replicate, get_or-replicate}
use lib.Pow.{pow_mono}
use mathlib.Core.Bool.{Bool, true, false, cond}
use mathlib.Core.List.{List}
use mathlib.Core.Logic.{◌≢◌}
use mathlib.Core.Path.{◌≡◌, refl, sym, ◌∙◌, ap, subst⁻¹, subst₂}
use native.Mathlib.Decide.{dec_le, dec_lt, ℕ_discrete}
use native.Mathlib.Nat.{min-eq_left, pow-succ'}
use native.Mathlib.Omega.{arith}
use Rattle.books.specs.declared.WinnerTree.{WinnerTree}

-- a tree with another number at a place
abbrev pub with_place : WinnerTree → ℕ → ℕ → WinnerTree
with_place tree p v = record { leaves = tree.leaves; keys = set tree.keys p v }

-- the key of server i, and what stands at the root
abbrev pub key_at : WinnerTree → ℕ → ℕ
key_at tree i = get_or tree.keys (tree.leaves + i) 0

abbrev pub root_of : WinnerTree → ℕ
root_of tree = get_or tree.keys 1 0

-- the place p holds the lesser of the two below it
abbrev pub Lesser : List ℕ → ℕ → Type 0
Lesser keys p = get_or keys p 0 ≡ min (get_or keys (2 * p) 0) (get_or keys (2 * p + 1) 0)

-- each place above the keys does; the keys stand in pairs, one at least
pub record Winners (tree : WinnerTree) : Type 0 where
  pub places : length tree.keys ≡ 128
  pub some : 2 ≤ tree.leaves
  pub few : tree.leaves ≤ 64
  pub pairs : 2 * (tree.leaves / 2) ≡ tree.leaves
  pub lesser : (p : ℕ) → 1 ≤ p → p < tree.leaves → Lesser tree.keys p

-- server i has a place in it
pub record Leaf (tree : WinnerTree) (i : ℕ) : Type 0 where
  pub place : i < tree.leaves
  pub winners : Winners tree

-- q and s are the two places below the place q / 2
abbrev pub Beside : ℕ → ℕ → Type 0
Beside q s = q + s ≡ 4 * (q / 2) + 1

-- the tree `exit` is the tree `entry` with another key at server i
pub record Set (entry exit : WinnerTree) (i key : ℕ) : Type 0 where
  pub winners : Winners exit
  pub same_leaves : exit.leaves ≡ entry.leaves
  pub here : key_at exit i ≡ key
  pub elsewhere : (j : ℕ) → j < entry.leaves → j ≢ i → key_at exit j ≡ key_at entry j

-- r is the least key of the servers other than i
pub record Rival (tree : WinnerTree) (i r : ℕ) : Type 0 where
  pub least : (j : ℕ) → j < tree.leaves → j ≢ i → r ≤ key_at tree j
  pub some : (j : ℕ) × (j < tree.leaves) × (j ≢ i) × (r ≡ key_at tree j)

-- the one is the left place and the other the right, or the other way round
pub beside_cases : (P : ℕ → ℕ → Type 0) (q s : ℕ) → Beside q s → P (2 * (q / 2)) (2 * (q / 2) + 1) → P (2 * (q / 2) + 1) (2 * (q / 2))
    → P q s
beside_cases P q s e left right = go (ℕ_discrete q (2 * (q / 2)))
  where
    go : Dec (q ≡ 2 * (q / 2)) → P q s
    go (yes p) = subst₂ P (sym p) (omega arith) left
    go (no p) = subst₂ P (omega arith) (omega arith) right

module _ {tree : WinnerTree} (w : Winners tree) where
  abbrev n : ℕ
  n = tree.leaves

  abbrev keys : List ℕ
  keys = tree.keys

  -- no place is less than the one above it
  up_least : (q : ℕ) → 2 ≤ q → q < 2 * n → get_or keys (q / 2) 0 ≤ get_or keys q 0
  up_least q h below =
      let lesser = w.lesser (q / 2) (omega arith) (omega arith) in
      beside_cases (λ (a b : ℕ). get_or keys (q / 2) 0 ≤ get_or keys a 0) q (4 * (q / 2) + 1 - q)
      (omega arith)
      (omega arith)
      (omega arith)

  -- so none is less than the root
  least_of : (m q : ℕ) → q ≤ m → 1 ≤ q → q < 2 * n → root_of tree ≤ get_or keys q 0
  least_of zero q within h below = let no : ⊥ = omega arith in absurd no
  least_of (suc m) q within h below = go (ℕ_discrete q 1) (λ more. least_of m (q / 2) (omega arith) (omega arith) (omega arith))
    where
      go : Dec (q ≡ 1) → (2 ≤ q → root_of tree ≤ get_or keys (q / 2) 0) → root_of tree ≤ get_or keys q 0
      go (yes e) up = rw e (omega arith)
      go (no e) up = omega (arith, up (omega arith), up_least q (omega arith) below)

  -- the root is no later than any key
  pub root_least : (i : ℕ) → i < tree.leaves → root_of tree ≤ key_at tree i
  root_least i h = least_of (2 * n) (n + i) (omega arith) (omega (arith, w.some)) (omega arith)

  -- what a place holds is the key of a server
  some_of : (m q : ℕ) → 2 * n ≤ q + m → 1 ≤ q → q < 2 * n → (i : ℕ) × (i < n) × (get_or keys q 0 ≡ key_at tree i)
  some_of zero q within h below = let no : ⊥ = omega arith in absurd no
  some_of (suc m) q within h below =
      go (dec_lt q n) (dec_le (get_or keys (2 * q) 0) (get_or keys (2 * q + 1) 0))
      (λ inner. some_of m (2 * q) (omega arith) (omega arith) (omega arith))
      (λ inner. some_of m (2 * q + 1) (omega arith) (omega arith) (omega arith))
    where
      Some : ℕ → Type 0
      Some k = (i : ℕ) × (i < n) × (k ≡ key_at tree i)

      go : Dec (q < n) → Dec (get_or keys (2 * q) 0 ≤ get_or keys (2 * q + 1) 0) → (q < n → Some (get_or keys (2 * q) 0))
          → (q < n → Some (get_or keys (2 * q + 1) 0)) → Some (get_or keys q 0)
      go (no leaf) d left right = (q - n, omega arith, ap (λ (k : ℕ). get_or keys k 0) (omega arith))
      go (yes inner) (yes first) left right = subst⁻¹ Some (w.lesser q h inner ∙ min-eq_left first) (left inner)
      go (yes inner) (no second) left right = subst⁻¹ Some (omega (arith, w.lesser q h inner)) (right inner)

  -- and is one of them
  pub root_some : (i : ℕ) × (i < tree.leaves) × (root_of tree ≡ key_at tree i)
  root_some = some_of (2 * n) 1 (omega arith) (omega arith) (omega (arith, w.some))

-- one key everywhere
abbrev pub tree_same : ℕ → ℕ → WinnerTree
tree_same n k = record { leaves = n; keys = replicate 128 k }

pub winners_same : (n k : ℕ) → 2 ≤ n → n ≤ 64 → 2 * (n / 2) ≡ n → Winners (tree_same n k)
winners_same n k some few pairs =
    record {
      places = length-replicate 128 k;
      some = some;
      few = few;
      pairs = pairs;
      lesser = λ p h b. omega (arith, same p (omega arith), same (2 * p) (omega arith), same (2 * p + 1) (omega arith));
    }
  where
    same : (q : ℕ) → q < 128 → get_or (replicate 128 k) q 0 ≡ k
    same q h = get_or-replicate 128 q k 0 h

-- How many leaves so many servers need: the least of 2, 4, 8 .. 64 that is no less.
unfoldable pub leaves_for : ℕ → ℕ
leaves_for count =
    cond (ltb 32 count) 64 (cond (ltb 16 count) 32 (cond (ltb 8 count) 16 (cond (ltb 4 count) 8 (cond (ltb 2 count) 4 2))))

-- So many leaves are enough for so many servers.
pub record Enough (count n : ℕ) : Type 0 where
  pub some : 2 ≤ n
  pub few : n ≤ 64
  pub pairs : 2 * (n / 2) ≡ n
  pub enough : count ≤ n

pub leaves_enough : (count : ℕ) → count ≤ 64 → Enough count (leaves_for count)
unfolding leaves_for
leaves_enough count most =
    by 32 64 _ (omega arith) (omega arith) refl most
    (λ l. by 16 32 _ (omega arith) (omega arith) refl l
    (λ l. by 8 16 _ (omega arith) (omega arith) refl l
    (λ l. by 4 8 _ (omega arith) (omega arith) refl l
    (λ l. by 2 4 2 (omega arith) (omega arith) refl l (λ l. record { some = omega arith; few = omega arith; pairs = refl; enough = l })))))
  where
    by : (half n rest : ℕ) → 2 ≤ n → n ≤ 64 → 2 * (n / 2) ≡ n → count ≤ n → (count ≤ half → Enough count rest) → Enough count (cond (ltb half count) n rest)
    by half n rest some few pairs fits else = go (ltb half count) refl
      where
        go : (b : Bool) → ltb half count ≡ b → Enough count (cond b n rest)
        go true e = record { some = some; few = few; pairs = pairs; enough = fits }
        go false e = else (ltb-false half count e)

-- a power of 2 that is more than the half of another and less than twice it is that one
power_between : (j k : ℕ) {n : ℕ} → n ≡ 2 ^ k → 2 ^ j < 2 * n → n < 2 * 2 ^ j → n ≡ 2 ^ j
power_between j k {n} e more less = go (dec_lt j k) (dec_lt k j)
  where
    go : Dec (j < k) → Dec (k < j) → n ≡ 2 ^ j
    go (yes l) d = let no : ⊥ = omega (arith, e, less, pow-succ' 2 j, pow_mono {i = suc j} {j = k} l) in absurd no
    go (no l) (yes m) = let no : ⊥ = omega (arith, e, more, pow-succ' 2 k, pow_mono {i = suc k} {j = j} m) in absurd no
    go (no l) (no m) = e ∙ ap (λ (i : ℕ). 2 ^ i) (omega arith)

-- they are the least power of 2 that is no less than so many, or than 64, and two at least
pub leaves_power : (count : ℕ) {n : ℕ} (k : ℕ) → n ≡ 2 ^ k → min count 64 ≤ n → n / 2 < max 1 (min count 64) → max 2 n ≡ leaves_for count
unfolding leaves_for
leaves_power count {n} k e fits half =
    by 5 (λ l. is 6 (omega arith) (omega arith))
    (λ l. by 4 (λ m. is 5 (omega arith) (omega arith))
    (λ l. by 3 (λ m. is 4 (omega arith) (omega arith))
    (λ l. by 2 (λ m. is 3 (omega arith) (omega arith))
    (λ l. by 1 (λ m. is 2 (omega arith) (omega arith))
    (λ l. two l (dec_lt 1 n))))))
  where
    is : (j : ℕ) → 2 ^ j < 2 * n → n < 2 * 2 ^ j → n ≡ 2 ^ j
    is j = power_between j k e

    two : count ≤ 2 → Dec (1 < n) → max 2 n ≡ 2
    two l (yes more) = omega (arith, is 1 (omega arith) (omega arith))
    two l (no few) = omega arith

    by : (j : ℕ) {rest : ℕ} → (2 ^ j < count → n ≡ 2 ^ (j + 1)) → (count ≤ 2 ^ j → max 2 n ≡ rest) → max 2 n ≡ cond (ltb (2 ^ j) count) (2 ^ (j + 1)) rest
    by j {rest} here else = go (ltb (2 ^ j) count) refl
      where
        go : (b : Bool) → ltb (2 ^ j) count ≡ b → max 2 n ≡ cond b (2 ^ (j + 1)) rest
        go true told = let is : n ≡ 2 ^ (j + 1) = here (ltb-true (2 ^ j) count told) in omega (arith, is, pow_mono {i = 1} {j = j + 1} (omega arith))
        go false told = else (ltb-false (2 ^ j) count told)

-- a power of 2 is, within 2 and 64, that is no less
pub enough_power : {count n : ℕ} → count ≤ 64 → (k : ℕ) → n ≡ 2 ^ k → count ≤ n → Enough count (max 2 (min n 64))
enough_power most zero e fits = record { some = omega arith; few = omega arith; pairs = omega (arith, e); enough = omega arith }
enough_power most (suc k) e fits =
    record { some = omega arith; few = omega arith; pairs = omega (arith, e ∙ pow-succ' 2 k); enough = omega arith }
