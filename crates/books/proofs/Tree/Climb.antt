-- The way up from a key that was stored: at each turn only the place above the one reached may not hold its lesser.
use Prim.Native.Nat.{ℕ, zero, suc, ◌+◌, ◌-◌, ◌*◌, ◌/◌, ◌≤◌, ◌<◌, min}
use lib.ListN.{length, get_or, set, length-set}
use lib.Seq.{get_or-set_same, get_or-set_other}
use mathlib.Core.List.{List}
use mathlib.Core.Logic.{◌≢◌}
use mathlib.Core.Path.{◌≡◌, refl, sym, ◌∙◌, ap, subst, subst⁻¹}
use native.Mathlib.Decide.{ℕ_discrete}
use native.Mathlib.Omega.{arith}
use Rattle.books.specs.declared.WinnerTree.{WinnerTree}
use Rattle.books.proofs.Tree.Winners.{with_place, key_at, root_of, Lesser, Winners, Leaf, Set, Beside, beside_cases}

-- `stored` is the tree with the key stored, and `tree` what it is when the climb has reached `at`: its keys are the same, and what lies
-- ahead is as it was.
pub record Climb (stored tree : WinnerTree) (at least : ℕ) : Type 0 where
  pub inner : 1 ≤ at
  pub below : at < 2 * tree.leaves
  pub places : length tree.keys ≡ 128
  pub same_leaves : tree.leaves ≡ stored.leaves
  pub some : 2 ≤ tree.leaves
  pub few : tree.leaves ≤ 64
  pub pairs : 2 * (tree.leaves / 2) ≡ tree.leaves
  pub lesser : (p : ℕ) → 1 ≤ p → p < tree.leaves → p ≢ at / 2 → Lesser tree.keys p
  pub reached : get_or tree.keys at 0 ≡ least
  pub keys : (j : ℕ) → key_at tree j ≡ key_at stored j
  pub ahead : (q : ℕ) → q < 2 * at → q ≢ at → get_or tree.keys q 0 ≡ get_or stored.keys q 0

-- a store at q leaves the lesser of every place but q and the one above it
lesser_elsewhere : (keys : List ℕ) (q v p : ℕ) → p ≢ q → p ≢ q / 2 → Lesser keys p → Lesser (set keys q v) p
lesser_elsewhere keys q v p other above l =
    rw (
      get_or-set_other keys q p v 0 other,
      get_or-set_other keys q (2 * p) v 0 (λ e. omega arith),
      get_or-set_other keys q (2 * p + 1) v 0 (λ e. omega arith),
    )
    l

-- and q holds its lesser where that is what was stored
lesser_here : (keys : List ℕ) (q v : ℕ) → 1 ≤ q → q < length keys → v ≡ min (get_or keys (2 * q) 0) (get_or keys (2 * q + 1) 0)
    → Lesser (set keys q v) q
lesser_here keys q v h below e =
    rw (
      get_or-set_same keys q v 0 below,
      get_or-set_other keys q (2 * q) v 0 (λ no. omega arith),
      get_or-set_other keys q (2 * q + 1) v 0 (λ no. omega arith),
    )
    e

-- the tree with a key stored at server i
abbrev pub stored_at : WinnerTree → ℕ → ℕ → WinnerTree
stored_at tree i key = with_place tree (tree.leaves + i) key

-- a key is stored
pub climb_starts : {entry : WinnerTree} → Winners entry → (i key : ℕ) → i < entry.leaves
    → Climb (stored_at entry i key) (stored_at entry i key) (entry.leaves + i) key
climb_starts {entry} w i key h =
    record {
      inner = omega (arith, w.some);
      below = omega arith;
      places = simp length-set w.places;
      same_leaves = refl;
      some = w.some;
      few = w.few;
      pairs = w.pairs;
      lesser = λ p h b other. lesser_elsewhere entry.keys (entry.leaves + i) key p (λ e. omega arith) other (w.lesser p h b);
      reached = get_or-set_same entry.keys (entry.leaves + i) key 0 (omega (arith, w.places, w.few));
      keys = λ j. refl;
      ahead = λ q b other. refl;
    }

-- a winner tree with the keys of `stored` has the one key set
pub set_from : {entry tree : WinnerTree} → Winners entry → (i key : ℕ) → i < entry.leaves → Winners tree → tree.leaves ≡ entry.leaves
    → ((j : ℕ) → key_at tree j ≡ key_at (stored_at entry i key) j) → Set entry tree i key
set_from {entry} {tree} w i key h won same keys =
    record {
      winners = won;
      same_leaves = same;
      here = keys i ∙ get_or-set_same entry.keys (entry.leaves + i) key 0 (omega (arith, w.places, w.few));
      elsewhere = λ j b other.
          keys j ∙ get_or-set_other entry.keys (entry.leaves + i) (entry.leaves + j) key 0 (λ e. other (omega arith));
    }

-- what it leaves when it is over: a winner tree with the same keys, and with r at its root
pub record Climbed (entry exit : WinnerTree) (r : ℕ) : Type 0 where
  pub root_is : r ≡ root_of exit
  pub winners : Winners exit
  pub same_leaves : exit.leaves ≡ entry.leaves
  pub keys : (j : ℕ) → key_at exit j ≡ key_at entry j

module _ {stored tree : WinnerTree} {at least : ℕ} (c : Climb stored tree at least) where
  -- at the root none is above
  pub climb_ends : at ≤ 1 → Winners tree
  climb_ends root =
      record { places = c.places; some = c.some; few = c.few; pairs = c.pairs; lesser = λ p h b. c.lesser p h b (λ e. omega arith) }

  pub climb_over : at ≤ 1 → Climbed stored tree least
  climb_over root =
      record {
        root_is = sym c.reached ∙ ap (λ (q : ℕ). get_or tree.keys q 0) (omega (arith, c.inner));
        winners = climb_ends root;
        same_leaves = c.same_leaves;
        keys = c.keys;
      }

  -- s is beside `at`, and v the lesser of the two
  module _ (s v : ℕ) (beside : Beside at s) (least_of : v ≡ min least (get_or tree.keys s 0)) where
    -- so v is what the place above has to hold
    above : v ≡ min (get_or tree.keys (2 * (at / 2)) 0) (get_or tree.keys (2 * (at / 2) + 1) 0)
    above =
        rw (least_of, ← c.reached)
        (beside_cases
        (λ (a b : ℕ).
        min (get_or tree.keys a 0) (get_or tree.keys b 0) ≡ min (get_or tree.keys (2 * (at / 2)) 0) (get_or tree.keys (2 * (at / 2) + 1) 0))
        at
        s
        beside
        refl
        (omega arith))

    -- where it is stored there, the climb has come to the place above
    pub climb_goes_on : 1 < at → Climb stored (with_place tree (at / 2) v) (at / 2) v
    climb_goes_on more =
        record {
          inner = omega arith;
          below = omega (arith, c.below);
          places = simp length-set c.places;
          same_leaves = c.same_leaves;
          some = c.some;
          few = c.few;
          pairs = c.pairs;
          lesser = λ p h b other. go p h b other (ℕ_discrete p (at / 2));
          reached = get_or-set_same tree.keys (at / 2) v 0 (omega (arith, c.below, c.places, c.few));
          keys = λ j. get_or-set_other tree.keys (at / 2) (tree.leaves + j) v 0 (λ q. omega (arith, c.below)) ∙ c.keys j;
          ahead = λ q b other. get_or-set_other tree.keys (at / 2) q v 0 other ∙ c.ahead q (omega arith) (λ w. omega arith);
        }
      where
        go : (p : ℕ) → 1 ≤ p → p < tree.leaves → p ≢ at / 2 / 2 → Dec (p ≡ at / 2) → Lesser (set tree.keys (at / 2) v) p
        go p h b other (yes q) = rw q (lesser_here tree.keys (at / 2) v (omega arith) (omega (arith, c.places, c.below, c.few)) above)
        go p h b other (no q) = lesser_elsewhere tree.keys (at / 2) v p q other (c.lesser p h b q)

-- The root, which is place 1, is so many places up from a place.
unfoldable pub Below : ℕ → ℕ → Type 0
Below at zero = at ≡ 1
Below at (suc k) = (1 < at) × Below (at / 2) k

-- With as many leaves as k doublings give, each of them stands k places below the root.
unfoldable pub doubled : ℕ → ℕ
doubled zero = 1
doubled (suc k) = 2 * doubled k

doubled_some : (k : ℕ) → 1 ≤ doubled k
unfolding doubled
doubled_some zero = omega arith
doubled_some (suc k) = omega (arith, doubled_some k)

pub leaf_below : (k i : ℕ) → i < doubled k → Below (doubled k + i) k
unfolding Below doubled
leaf_below zero i l = omega arith
leaf_below (suc k) i l =
    let half : (2 * doubled k + i) / 2 ≡ doubled k + i / 2 = omega arith in
    (omega (arith, doubled_some k), subst⁻¹ (λ (at : ℕ). Below at k) half (leaf_below k (i / 2) (omega arith)))

-- at the root none is left, and anywhere else there is a place above
pub root_reached : (at above : ℕ) → Below at above → above ≡ 0 → at ≤ 1
unfolding Below
root_reached at zero b e = omega (arith, b)
root_reached at (suc n) b e = let no : ⊥ = omega arith in absurd no

pub one_up : (at above : ℕ) → Below at above → 0 < above → (1 < at) × Below (at / 2) (above - 1)
unfolding Below
one_up at zero b l = let no : ⊥ = omega arith in absurd no
one_up at (suc n) b l =
    let less : suc n - 1 ≡ n = omega arith in (b.0, subst⁻¹ (Below (at / 2)) less b.1)

-- a climb of so many turns from where a key was stored
pub record Climbs (tree : WinnerTree) (at key turns : ℕ) : Type 0 where
  pub climb : Climb tree tree at key
  pub up : Below at turns

module _ {entry : WinnerTree} {i at : ℕ} (leaf : Leaf entry i) (at_is : at ≡ entry.leaves + i) (key : ℕ) where
  abbrev stored : WinnerTree
  stored = with_place entry at key

  -- a climb from a leaf
  pub climbs : Climb stored stored at key
  climbs =
      subst⁻¹ (λ (p : ℕ). Climb (with_place entry p key) (with_place entry p key) p key) at_is
      (climb_starts leaf.winners i key leaf.place)

  pub climbs_doubled : (k : ℕ) → entry.leaves ≡ doubled k → Climbs stored at key k
  climbs_doubled k e =
      record {
        climb = climbs;
        up = subst⁻¹ (λ (p : ℕ). Below p k) (at_is ∙ ap (λ (m : ℕ). m + i) e) (leaf_below k i (omega (arith, leaf.place)));
      }

  -- sets its key
  pub climbed_set : {exit : WinnerTree} {r : ℕ} → Climbed stored exit r → Set entry exit i key
  climbed_set {exit} {r} c = go (subst (λ (p : ℕ). Climbed (with_place entry p key) exit r) at_is c)
    where
      go : Climbed (stored_at entry i key) exit r → Set entry exit i key
      go d = set_from leaf.winners i key leaf.place d.winners d.same_leaves d.keys
