-- Adding to a list and its next place: nothing changes them, and to add one thing and then another is to add both.
use Prim.Native.Nat.{ℕ, zero, suc, ◌+◌, ◌-◌, ◌≤◌, ◌<◌, min}
use lib.ListN.{length, take, drop, get_or, set, length-append, take-append-drop, drop_of_length-le}
use lib.Seq.{set_split, drop-cons, take-suc, take_all, take-nil, drop-nil}
use mathlib.Core.List.{List, [], ◌∷◌, ◌++◌, append-nil}
use mathlib.Core.Path.{◌≡◌, refl, sym, ◌∙◌, ap, ap₂, subst}
use native.Mathlib.Nat.{le_antisymm, le_of_suc-le-suc, not-suc-le-zero}
use native.Mathlib.Numerals.{add-one}
use native.Mathlib.Omega.{arith}
use Rattle.std.proofs.lemmas.Grind.{flat_map-append}
use Rattle.std.specs.List.{flat_map}
use Rattle.page.specs.Page.{over, added, Added, each}
use Rattle.page.specs.declared.Page.{Page}

module _ {A : Type 0} where
  pub both : {l m : List A} {i n : ℕ} → l ≡ m → i ≡ n → ◌≡◌ {A = List A × ℕ} (l, i) (m, n)
  both = ap₂ (λ (l : List A) (n : ℕ). (l, n))

  -- two that are one have one next place and one list
  pub page_apart : {p q : List A × ℕ} → p ≡ q → (p.1 ≡ q.1) × (p.0 ≡ q.0)
  page_apart e = (ap (λ (p : List A × ℕ). p.1) e, ap (λ (p : List A × ℕ). p.0) e)

  over_empty : (m : List A) → over m [] ≡ []
  unfolding over
  over_empty [] = refl
  over_empty (b ∷ m) = refl

  over_length : (m list : List A) → length (over m list) ≡ length list
  unfolding over
  over_length [] list = refl
  over_length (b ∷ m) [] = refl
  over_length (b ∷ m) (a ∷ list) = ap suc (over_length m list)

  -- the first, and the others behind as many of them as fit
  over_both : (a b list : List A)
      → take (min (length a) (length list)) (over a list) ++ over b (drop (min (length a) (length list)) (over a list)) ≡ over (a ++ b) list
  unfolding over
  over_both [] b list = ap (λ (n : ℕ). take n list ++ over b (drop n list)) none
    where
      none : min 0 (length list) ≡ 0
      none = omega arith
  over_both (x ∷ a) b [] = ap (λ (n : ℕ). take n [] ++ over b (drop n [])) none ∙ over_empty b
    where
      none : min (suc (length a)) 0 ≡ 0
      none = omega arith
  over_both (x ∷ a) b (y ∷ list) =
      ap (λ (n : ℕ). take n (x ∷ over a list) ++ over b (drop n (x ∷ over a list))) more ∙ ap (◌∷◌ x) (over_both a b list)
    where
      more : min (suc (length a)) (suc (length list)) ≡ suc (min (length a) (length list))
      more = omega arith

  -- the list of a page with more added from a place on
  abbrev laid : List A → ℕ → List A → List A
  laid m at list = take at list ++ over m (drop at list)

  laid_empty : (m : List A) (at : ℕ) → laid m at [] ≡ []
  laid_empty m at = ap₂ (λ (x y : List A). x ++ over m y) (take-nil at) (drop-nil at) ∙ over_empty m

  laid_both : (a b list : List A) (at : ℕ)
      → laid b (at + min (length a) (length list - at)) (laid a at list) ≡ laid (a ++ b) at list
  laid_both a b list zero = ap (λ (n : ℕ). laid b n (over a list)) from_start ∙ over_both a b list
    where
      from_start : 0 + min (length a) (length list - 0) ≡ min (length a) (length list)
      from_start = omega arith
  laid_both a b [] (suc at) =
      ap (laid b (suc at + min (length a) (0 - suc at))) (laid_empty a (suc at))
      ∙ laid_empty b (suc at + min (length a) (0 - suc at))
      ∙ sym (laid_empty (a ++ b) (suc at))
  laid_both a b (x ∷ list) (suc at) =
      ap (λ (n : ℕ). laid b n (x ∷ laid a at list)) further ∙ ap (◌∷◌ x) (laid_both a b list at)
    where
      further : suc at + min (length a) (suc (length list) - suc at) ≡ suc (at + min (length a) (length list - at))
      further = omega arith

  laid_length : (m list : List A) (at : ℕ) → length (laid m at list) ≡ length list
  laid_length m list at =
      length-append (take at list) (over m (drop at list))
      ∙ ap (λ (n : ℕ). length (take at list) + n) (over_length m (drop at list))
      ∙ sym (length-append (take at list) (drop at list))
      ∙ ap length (take-append-drop at list)

  -- no list gets longer or shorter
  pub added_length : (m : List A) (p : List A × ℕ) → length (added m p).0 ≡ length p.0
  unfolding added
  added_length m p = laid_length m p.0 p.1

  pub added_none : (p : List A × ℕ) → added [] p ≡ p
  unfolding added over
  added_none p = both (take-append-drop p.1 p.0) (omega arith)

  pub added_both : (a b : List A) (p : List A × ℕ) → added b (added a p) ≡ added (a ++ b) p
  unfolding added
  added_both a b p =
      both (laid_both a b p.0 p.1)
      (omega (arith, laid_length a p.0 p.1, length-append a b))

  pub added_then : (a b : List A) (p : List A × ℕ) {q r : List A × ℕ} → q ≡ added a p → r ≡ added b q → r ≡ added (a ++ b) p
  added_then a b p first second = second ∙ ap (added b) first ∙ added_both a b p

  pub added_as : (p : List A × ℕ) {q : List A × ℕ} {a b : List A} → a ≡ b → q ≡ added a p → q ≡ added b p
  added_as p same first = first ∙ ap (λ (m : List A). added m p) same

  -- one where there is room
  pub added_room : (list : List A) (at : ℕ) (b : A) → at < length list → (set list at b, at + 1) ≡ added (b ∷ []) (list, at)
  unfolding added over
  added_room list at b h =
      both (set_split list at b h ∙ ap (λ (l : List A). take at list ++ over (b ∷ []) l) (sym (drop-cons list at b h))) (omega arith)

  -- and where there is none
  pub added_full : (m list : List A) (at : ℕ) → length list ≤ at → (list, at) ≡ added m (list, at)
  unfolding added
  added_full m list at h =
      both (sym (ap₂ (λ (x y : List A). x ++ over m y) (take_all at list h) (past list at h) ∙ ap (λ (l : List A). list ++ l) (over_empty m) ∙ append-nil list))
      (omega arith)
    where
      past : (l : List A) (n : ℕ) → length l ≤ n → drop n l ≡ []
      past l n h = drop_of_length-le l {i = n} h

  -- where the next place lies within the list, it still does when more was added
  pub added_within : (m : List A) (p : List A × ℕ) {q : List A × ℕ} → q ≡ added m p → p.1 ≤ length p.0 → q.1 ≤ length q.0
  unfolding added
  added_within m p e within =
      omega (
        arith,
        within,
        ap (λ (r : List A × ℕ). r.1) e,
        ap (λ (r : List A × ℕ). length r.0) e,
        laid_length m p.0 p.1,
      )

  -- and where there is room for all of it, it is what the list then begins with
  over_whole : (m list : List A) → length m ≤ length list → take (length m) (over m list) ≡ m
  unfolding over
  over_whole [] list h = refl
  over_whole (b ∷ m) [] h = absurd (not-suc-le-zero h)
  over_whole (b ∷ m) (a ∷ list) h = ap (◌∷◌ b) (over_whole m list (le_of_suc-le-suc h))

  pub added_whole : (m before after : List A) (next : ℕ) → length m ≤ length before → (after, next) ≡ added m (before, 0)
      → take next after ≡ m
  unfolding added
  added_whole m before after next room e =
      ap₂ take (ap (λ (p : List A × ℕ). p.1) e ∙ all) (ap (λ (p : List A × ℕ). p.0) e) ∙ over_whole m before room
    where
      all : 0 + min (length m) (length before - 0) ≡ length m
      all = omega arith

-- The same of pages, whose list stays the same one.
module _ {A : Type 0} where
  pub adds_none : (p : Page A) → Added [] p p
  adds_none p = record { same_list = refl; filled = sym (added_none (p.list.now, p.next)) }

  pub adds_then : {a b : List A} {p q r : Page A} → Added a p q → Added b q r → Added (a ++ b) p r
  adds_then first second =
      record { same_list = second.same_list ∙ first.same_list; filled = added_then _ _ _ first.filled second.filled }

  pub adds_as : {p q : Page A} {a b : List A} → a ≡ b → Added a p q → Added b p q
  adds_as same first = record { same_list = first.same_list; filled = added_as _ same first.filled }

  -- a page is added to as what it equals
  pub adds_from : {m : List A} {p q r : Page A} → p ≡ q → Added m p r → Added m q r
  adds_from {m} {r = r} e = subst (λ (p : Page A). Added m p r) e

  -- one more of a list, and of a list of each of which f is added
  pub adds_next : (m : List A) (k : ℕ) (d : A) {p q r : Page A} → k < length m → Added (take k m) p q → Added (get_or m k d ∷ []) q r
      → Added (take (k + 1) m) p r
  adds_next m k d h first second =
      adds_as (sym (take-suc m k d h) ∙ ap (λ (n : ℕ). take n m) (sym (add-one k))) (adds_then first second)

  pub adds_each : {X : Type 0} (f : X → List A) (l : List X) (k : ℕ) (d : X) {p q r : Page A} → k < length l
      → Added (flat_map f (take k l)) p q → Added (f (get_or l k d)) q r → Added (flat_map f (take (k + 1) l)) p r
  adds_each f l k d h first second =
      adds_as
      (sym (ap (λ (n : ℕ). flat_map f (take n l)) (add-one k) ∙ ap (flat_map f) (take-suc l k d h) ∙ flat_map-append f (take k l) (get_or l k d ∷ [])
      ∙ ap (λ (m : List A). flat_map f (take k l) ++ m) (append-nil (f (get_or l k d)))))
      (adds_then first second)

-- of things that are added in turn: none, and one more
pub each_none : (f : ℕ → List ℕ) (p : Page ℕ) → Added (each 0 f) p p
unfolding each
each_none f p = adds_none p

pub each_next : (f : ℕ → List ℕ) (k : ℕ) {p q r : Page ℕ} → Added (each k f) p q → Added (f k) q r → Added (each (k + 1) f) p r
unfolding each
each_next f k first second = adds_as (ap (λ (n : ℕ). each n f) (sym (add-one k))) (adds_then first second)

-- all of them, where as many as there are have been added
pub each_all : (f : ℕ → List ℕ) (k n : ℕ) {p q : Page ℕ} → k ≤ n → n ≤ k → Added (each k f) p q → Added (each n f) p q
each_all f k n a b = adds_as (ap (λ (m : ℕ). each m f) (le_antisymm a b))
