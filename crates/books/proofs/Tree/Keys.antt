-- A winner tree over the servers of a dispatcher: its root tells the pick.
use Prim.Native.Nat.{ℕ, ◌+◌, ◌*◌, ◌%◌, ◌≤◌, ◌<◌}
use mathlib.Core.Bool.{Bool, true, false, cond}
use Rattle.std.specs.Prelude.{Option, None, Some}
use mathlib.Core.Path.{◌≡◌, refl, sym, ◌∙◌, ap, subst, subst⁻¹}
use native.Mathlib.Decide.{dec_lt, ℕ_discrete}
use native.Mathlib.Omega.{arith}
use Rattle.clock.specs.Clock.{last_tick}
use Rattle.counting.proofs.TestLaws.{not_both}
use Rattle.dispatcher.specs.Pick.{server_at, Earliest, NoneWorks}
use Rattle.dispatcher.specs.Within.{Within}
use Rattle.dispatcher.specs.declared.Dispatcher.{Dispatcher}
use Rattle.server.proofs.RangeLaws.{deadline_below}
use Rattle.server.specs.Server.{passed_over}
use Rattle.server.specs.declared.Server.{Server}
use Rattle.books.specs.declared.WinnerTree.{WinnerTree}
use Rattle.books.proofs.Tree.Winners.{key_at, root_of, Winners, Set, root_least, root_some}

-- the deadline and then the number of a server; the last number for one that is passed over
unfoldable pub key_of : Server → ℕ → ℕ
key_of s i = cond (passed_over s) last_tick (s.deadline.tick * 64 + i)

pub key_passed_over : (s : Server) (i : ℕ) → passed_over s ≡ true → key_of s i ≡ last_tick
unfolding key_of
key_passed_over s i e = rw e

pub key_works : (s : Server) (i : ℕ) → passed_over s ≡ false → key_of s i ≡ s.deadline.tick * 64 + i
unfolding key_of
key_works s i e = rw e

-- what the root tells of the pick: nobody's key, or that of the server which is the remainder by 64
abbrev pub Picked : ℕ → Option ℕ → Type 0
Picked root None = root ≡ last_tick
Picked root (Some i) = (root ≡ last_tick → ⊥) × (i ≡ root % 64)

-- A tree that holds some key of each of a dispatcher's servers.
pub record Holds (key : Server → ℕ → ℕ) (tree : WinnerTree) (d : Dispatcher) : Type 0 where
  pub winners : Winners tree
  pub enough : d.count ≤ tree.leaves
  pub keys : (i : ℕ) → i < tree.leaves → key_at tree i ≡ key (server_at d i) i

-- with another server at place i, and its key set
pub holds_set : {key : Server → ℕ → ℕ} {tree after : WinnerTree} {d e : Dispatcher} (i : ℕ) → Holds key tree d → e.count ≡ d.count
    → ((j : ℕ) → (j ≡ i → ⊥) → server_at e j ≡ server_at d j) → Set tree after i (key (server_at e i) i) → Holds key after e
holds_set {key} {tree} {after} {d} {e} i k same others s =
    record {
      winners = s.winners;
      enough = omega (arith, k.enough, s.same_leaves);
      keys = λ j b. go j (omega (arith, s.same_leaves)) (ℕ_discrete j i);
    }
  where
    go : (j : ℕ) → j < tree.leaves → Dec (j ≡ i) → key_at after j ≡ key (server_at e j) j
    go j b (yes q) = subst⁻¹ (λ (m : ℕ). key_at after m ≡ key (server_at e m) m) q s.here
    go j b (no other) = s.elsewhere j b other ∙ k.keys j b ∙ ap (λ (x : Server). key x j) (sym (others j other))

-- the one that tells the pick
abbrev pub Keyed : WinnerTree → Dispatcher → Type 0
Keyed = Holds key_of

-- Within the ranges no key of a server with work is the last number.
module _ {tree : WinnerTree} {d : Dispatcher} (k : Keyed tree d) (ok : Within d) where
  key_below : (i : ℕ) → i < d.count → (server_at d i).deadline.tick * 64 + i < last_tick
  key_below i b = omega (arith, deadline_below (ok.servers i b) ok.clock, ok.count)

  -- where the root is that, nobody has work
  pub root_none : root_of tree ≡ last_tick → NoneWorks d d.count
  root_none e j b = go (passed_over (server_at d j)) refl
    where
      go : (x : Bool) → passed_over (server_at d j) ≡ x → passed_over (server_at d j) ≡ true
      go true q = q
      go false q =
          let no : ⊥
          = omega (
            arith,
            root_least k.winners j (omega (arith, k.enough)),
            k.keys j (omega (arith, k.enough)),
            key_works (server_at d j) j q,
            key_below j b,
          ) in
          absurd no

  -- and else it is the key of a server with work
  pub root_works : (root_of tree ≡ last_tick → ⊥)
      → (i : ℕ) × (i < d.count) × (passed_over (server_at d i) ≡ false) × (root_of tree ≡ (server_at d i).deadline.tick * 64 + i)
  root_works other = go (root_some k.winners)
    where
      go : (i : ℕ) × (i < tree.leaves) × (root_of tree ≡ key_at tree i)
          → (i : ℕ) × (i < d.count) × (passed_over (server_at d i) ≡ false) × (root_of tree ≡ (server_at d i).deadline.tick * 64 + i)
      go (i, b, e) = by (passed_over (server_at d i)) refl (dec_lt i d.count)
        where
          by : (x : Bool) → passed_over (server_at d i) ≡ x → Dec (i < d.count)
              → (i : ℕ) × (i < d.count) × (passed_over (server_at d i) ≡ false) × (root_of tree ≡ (server_at d i).deadline.tick * 64 + i)
          by true q c = absurd (other (e ∙ k.keys i b ∙ key_passed_over (server_at d i) i q))
          by false q (yes c) = (i, c, q, e ∙ k.keys i b ∙ key_works (server_at d i) i q)
          by false q (no c) = not_both (ap passed_over (ok.behind i (omega arith))) q

  -- its number is the remainder by 64, and it is the one that the rules pick
  pub root_picked : (root_of tree ≡ last_tick → ⊥) → Earliest d d.count (root_of tree % 64)
  root_picked other = go (root_works other)
    where
      go : (i : ℕ) × (i < d.count) × (passed_over (server_at d i) ≡ false) × (root_of tree ≡ (server_at d i).deadline.tick * 64 + i)
          → Earliest d d.count (root_of tree % 64)
      go (i, c, q, e) = subst (Earliest d d.count) number earliest
        where
          number : i ≡ root_of tree % 64
          number = omega (arith, ok.count)

          no_later : (j : ℕ) → j < d.count → passed_over (server_at d j) ≡ false
              → (server_at d i).deadline.tick * 64 + i ≤ (server_at d j).deadline.tick * 64 + j
          no_later j b v =
              omega (
                arith,
                root_least k.winners j (omega (arith, k.enough)),
                k.keys j (omega (arith, k.enough)),
                key_works (server_at d j) j v,
              )

          earliest : Earliest d d.count i
          earliest =
              record {
                among = c;
                works = q;
                least = λ j b v. omega (arith, no_later j b v, ok.count);
                ties = λ j b v p. omega (arith, no_later j b v, ok.count);
              }
