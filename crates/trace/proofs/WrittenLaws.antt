-- One segment more is put behind those that are written.
use Prim.Native.Nat.{ℕ, suc, ◌+◌, ◌*◌, ◌/◌, ◌≤◌, ◌<◌}
use borrow.Author.Tests.{le-leb, lt-leb}
use lib.ListN.{drop, length, set, take, length-drop, length-set}
use mathlib.Core.List.{List, [], ◌∷◌, ◌++◌}
use mathlib.Core.Path.{◌≡◌, refl, sym, ◌∙◌, ap}
use native.Mathlib.Decide.{dec_lt}
use native.Mathlib.Nat.{le_of_suc-le-suc, not-suc-le-zero}
use native.Mathlib.Omega.{arith}
use Rattle.page.proofs.PageLaws.{added_room, added_then, both}
use Rattle.page.specs.Page.{added, over}
use Rattle.trace.specs.declared.Segment.{Segment}
use Rattle.trace.specs.Written.{numbers, written, put}

pub written_length : (l : List Segment) (list : List ℕ) → length (written l list) ≡ length list
unfolding written
written_length [] list = refl
written_length (s ∷ l) [] = refl
written_length (s ∷ l) (a ∷ []) = refl
written_length (s ∷ l) (a ∷ b ∷ []) = refl
written_length (s ∷ l) (a ∷ b ∷ c ∷ []) = refl
written_length (s ∷ l) (a ∷ b ∷ c ∷ d ∷ rest) = ap (λ (n : ℕ). suc (suc (suc (suc n)))) (written_length l rest)

-- where segment k does not fit, nothing changes
pub put_short : (k : ℕ) (s : Segment) (list : List ℕ) → length list / 4 ≤ k → put k s list ≡ list
unfolding put
put_short k s list h = rw (lt-leb (4 * k + 4) (length list) (omega arith))

-- a number is added at a place where there is room
room : (list : List ℕ) (at n next : ℕ) → at < length list → next ≡ at + 1 → (set list at n, next) ≡ added (n ∷ []) (list, at)
room list at n next h e = both refl e ∙ added_room list at n h

-- and four one behind the other
four_set : (list : List ℕ) (at a b c d : ℕ) → at + 4 ≤ length list
    → (set (set (set (set list at a) (at + 1) b) (at + 2) c) (at + 3) d, at + 4) ≡ added (a ∷ b ∷ c ∷ d ∷ []) (list, at)
four_set list at a b c d fits =
    added_then (a ∷ b ∷ c ∷ []) (d ∷ []) (list, at)
    (added_then (a ∷ b ∷ []) (c ∷ []) (list, at)
    (added_then (a ∷ []) (b ∷ []) (list, at) (room list at a (at + 1) (omega arith) refl)
    (room (set list at a) (at + 1) b (at + 2) (simp length-set (omega arith)) (omega arith)))
    (room (set (set list at a) (at + 1) b) (at + 2) c (at + 3) (simp length-set (omega arith)) (omega arith)))
    (room (set (set (set list at a) (at + 1) b) (at + 2) c) (at + 3) d (at + 4) (simp length-set (omega arith)) (omega arith))

-- and where it fits its four places are set
pub put_fits : (k : ℕ) (s : Segment) (list : List ℕ) → k < length list / 4
    → put k s list
    ≡ set (set (set (set list (4 * k) s.start.tick) (4 * k + 1) s.length.ticks) (4 * k + 2) s.server) (4 * k + 3) s.deadline.tick
unfolding put
put_fits k s list fits =
    rw (le-leb (4 * k + 4) (length list) (omega arith))
    (sym (ap (λ (p : List ℕ × ℕ). p.0) (four_set list (4 * k) s.start.tick s.length.ticks s.server s.deadline.tick (omega arith))))

-- which come to its four numbers laid over them
over_fits : (m l : List ℕ) → length m ≤ length l → over m l ≡ m ++ drop (length m) l
unfolding over
over_fits [] l h = refl
over_fits (b ∷ m) [] h = absurd (not-suc-le-zero h)
over_fits (b ∷ m) (a ∷ l) h = ap (◌∷◌ b) (over_fits m l (le_of_suc-le-suc h))

pub put_laid : (k : ℕ) (s : Segment) (list : List ℕ) → k < length list / 4
    → take (4 * k) list ++ (numbers s ++ drop 4 (drop (4 * k) list)) ≡ put k s list
unfolding put added
put_laid k s list fits =
    rw (le-leb (4 * k + 4) (length list) (omega arith))
    (ap (λ (l : List ℕ). take (4 * k) list ++ l) (sym (over_fits (numbers s) (drop (4 * k) list) (simp length-drop (omega arith)))))

-- behind four places that are another's
put_behind : (k : ℕ) (s : Segment) (a b c d : ℕ) (rest : List ℕ)
    → put (suc k) s (a ∷ b ∷ c ∷ d ∷ rest) ≡ a ∷ b ∷ c ∷ d ∷ put k s rest
put_behind k s a b c d rest = go (dec_lt k (length rest / 4))
  where
    four : (n : ℕ) → 4 * suc k + n ≡ suc (suc (suc (suc (4 * k + n))))
    four n = omega arith

    first : 4 * suc k ≡ suc (suc (suc (suc (4 * k))))
    first = omega arith

    go : Dec (k < length rest / 4) → put (suc k) s (a ∷ b ∷ c ∷ d ∷ rest) ≡ a ∷ b ∷ c ∷ d ∷ put k s rest
    go (yes h) =
        rw (put_fits (suc k) s (a ∷ b ∷ c ∷ d ∷ rest) (omega arith), put_fits k s rest h, four 1, four 2, four 3, first)
    go (no h) = rw (put_short (suc k) s (a ∷ b ∷ c ∷ d ∷ rest) (omega arith), put_short k s rest (omega arith))

-- one segment more
pub written_more : (l : List Segment) (s : Segment) (list : List ℕ)
    → written (l ++ s ∷ []) list ≡ put (length l) s (written l list)
unfolding written
written_more [] s [] = sym (put_short 0 s [] (omega arith))
written_more [] s (a ∷ []) = sym (put_short 0 s (a ∷ []) (omega arith))
written_more [] s (a ∷ b ∷ []) = sym (put_short 0 s (a ∷ b ∷ []) (omega arith))
written_more [] s (a ∷ b ∷ c ∷ []) = sym (put_short 0 s (a ∷ b ∷ c ∷ []) (omega arith))
written_more [] s (a ∷ b ∷ c ∷ d ∷ rest) = sym (put_fits 0 s (a ∷ b ∷ c ∷ d ∷ rest) (omega arith))
written_more (f ∷ l) s [] = sym (put_short (suc (length l)) s [] (omega arith))
written_more (f ∷ l) s (a ∷ []) = sym (put_short (suc (length l)) s (a ∷ []) (omega arith))
written_more (f ∷ l) s (a ∷ b ∷ []) = sym (put_short (suc (length l)) s (a ∷ b ∷ []) (omega arith))
written_more (f ∷ l) s (a ∷ b ∷ c ∷ []) = sym (put_short (suc (length l)) s (a ∷ b ∷ c ∷ []) (omega arith))
written_more (f ∷ l) s (a ∷ b ∷ c ∷ d ∷ rest) =
    ap (λ (r : List ℕ). f.start.tick ∷ f.length.ticks ∷ f.server ∷ f.deadline.tick ∷ r) (written_more l s rest)
    ∙ sym (put_behind (length l) s f.start.tick f.length.ticks f.server f.deadline.tick (written l rest))
