-- The climb of `tree::rival`, in a tree that is not there: in it server i has the key of the server beside it, and so its root holds the
-- least of the other keys.
use Prim.Native.Nat.{ℕ, ◌+◌, ◌-◌, ◌/◌, ◌≤◌, ◌<◌, min}
use lib.ListN.{get_or}
use lib.Seq.{get_or-set_other}
use mathlib.Core.Logic.{◌≢◌}
use mathlib.Core.Path.{◌≡◌, sym, ◌∙◌, ap, subst, subst⁻¹}
use native.Mathlib.Decide.{ℕ_discrete}
use native.Mathlib.Omega.{arith}
use Rattle.books.specs.declared.WinnerTree.{WinnerTree}
use Rattle.books.proofs.Tree.Winners.{with_place, key_at, root_of, Leaf, Beside, Set, Rival, root_least, root_some}
use Rattle.books.proofs.Tree.Climb.{Climb, stored_at, climb_starts, climb_goes_on, climb_ends, set_from}

-- the tree that would stand if server i had the key k, and the climb in it had reached `at`, above the keys
pub record Would (tree : WinnerTree) (i k at least : ℕ) : Type 0 where
  pub would : WinnerTree
  pub climb : Climb (stored_at tree i k) would at least
  pub above : at < tree.leaves

-- the least of all keys, with that of another server at server i, is the least of the others
rival_from : {tree would : WinnerTree} {i k r : ℕ} → Set tree would i k → root_of would ≡ r → (j : ℕ) → j < tree.leaves → j ≢ i
    → k ≡ key_at tree j → Rival tree i r
rival_from {tree} {would} {i} {k} {r} w root j below other e =
    record {
      least = λ m b o. omega (arith, root_least w.winners m (omega (arith, w.same_leaves)), w.elsewhere m b o);
      some = go (root_some w.winners);
    }
  where
    go : (m : ℕ) × (m < would.leaves) × (root_of would ≡ key_at would m) → (m : ℕ) × (m < tree.leaves) × (m ≢ i) × (r ≡ key_at tree m)
    go (m, b, q) = by (ℕ_discrete m i)
      where
        within : m < tree.leaves
        within = omega (arith, w.same_leaves)

        by : Dec (m ≡ i) → (m : ℕ) × (m < tree.leaves) × (m ≢ i) × (r ≡ key_at tree m)
        by (yes p) = (j, below, other, sym root ∙ q ∙ ap (key_at would) p ∙ w.here ∙ e)
        by (no p) = (m, within, p, sym root ∙ q ∙ w.elsewhere m within p)

module _ {tree : WinnerTree} {i : ℕ} where
  -- the key beside it is stored at server i, and is the lesser of the two
  pub would_starts : Leaf tree i → {leaf : ℕ} → leaf ≡ tree.leaves + i → (s : ℕ) → Beside leaf s
      → Would tree i (get_or tree.keys s 0) (leaf / 2) (get_or tree.keys s 0)
  would_starts l is s besides =
      let w = l.winners in
      let h = l.place in
      let beside = subst (λ (p : ℕ). Beside p s) is besides in
      subst⁻¹ (λ (p : ℕ). Would tree i (get_or tree.keys s 0) (p / 2) (get_or tree.keys s 0)) is
      (record {
        would = with_place (stored_at tree i (get_or tree.keys s 0)) ((tree.leaves + i) / 2) (get_or tree.keys s 0);
        climb =
            climb_goes_on (climb_starts w i (get_or tree.keys s 0) h) s (get_or tree.keys s 0) beside
            (omega (arith, get_or-set_other tree.keys (tree.leaves + i) s (get_or tree.keys s 0) 0 (λ e. omega arith)))
            (omega (arith, w.some));
        above = omega arith;
      })

  -- what is beside the climb is as in the tree that is there
  pub would_goes_on : {k at least : ℕ} → Would tree i k at least → (s v : ℕ) → Beside at s → v ≡ min least (get_or tree.keys s 0) → 1 < at
      → Would tree i k (at / 2) v
  would_goes_on {k} {at} {least} c s v beside lesser more =
      record {
        would = with_place c.would (at / 2) v;
        climb = climb_goes_on c.climb s v beside (rw same lesser) more;
        above = omega (arith, c.above);
      }
    where
      same : get_or c.would.keys s 0 ≡ get_or tree.keys s 0
      same =
          c.climb.ahead s (omega arith) (λ e. omega arith)
          ∙ get_or-set_other tree.keys (tree.leaves + i) s k 0 (λ e. omega (arith, c.above, c.climb.pairs, c.climb.same_leaves))

  -- at the root
  pub would_ends : Leaf tree i → {leaf : ℕ} → leaf ≡ tree.leaves + i → (s : ℕ) → Beside leaf s → {at least : ℕ}
      → Would tree i (get_or tree.keys s 0) at least → at ≤ 1 → Rival tree i least
  would_ends l is s beside {at} {least} c end =
      let w = l.winners in
      let h = l.place in
      rival_from (set_from w i (get_or tree.keys s 0) h (climb_ends c.climb end) c.climb.same_leaves c.climb.keys)
      (ap (λ (n : ℕ). get_or c.would.keys n 0) (omega (arith, c.climb.inner)) ∙ c.climb.reached)
      (s - tree.leaves)
      (omega (arith, w.some, w.pairs))
      (λ e. omega (arith, w.some, w.pairs))
      (ap (λ (q : ℕ). get_or tree.keys q 0) (omega (arith, w.some, w.pairs)))
