-- Laws of the list of a function's values.
use Prim.Native.Nat.{ℕ, zero, suc, ◌+◌, ◌≤◌, ◌<◌, zero-le, suc-le-suc}
use borrow.Author.Tests.{lt-ltb, le-ltb}
use lib.Dec.{ltb}
use lib.ListN.{length, get_or, replicate, set}
use mathlib.Core.Bool.{cond}
use mathlib.Core.List.{List, [], ◌∷◌}
use mathlib.Core.Logic.{◌≢◌}
use mathlib.Core.Path.{◌≡◌, refl, sym, ◌∙◌, ap, ap₂}
use native.Mathlib.Decide.{dec_lt, ℕ_discrete}
use native.Mathlib.Nat.{le_of_suc-le-suc, not-suc-le-zero}
use native.Mathlib.Omega.{arith}
use denote.Param.Members.{Mut, Called}
use Rattle.std.specs.Array.{IsFromFnResult, IsFromFnResultFrom}
use Rattle.counting.specs.Places.{places}

module _ {A : Type 0} where
  pub length_places : (n : ℕ) (f : ℕ → A) → length (places n f) ≡ n
  unfolding places
  length_places zero f = refl
  length_places (suc n) f = ap suc (length_places n (λ i. f (suc i)))

  pub get_d_places : (n : ℕ) (f : ℕ → A) (i : ℕ) (d : A) → i < n → get_or (places n f) i d ≡ f i
  unfolding places
  get_d_places zero f i d h = absurd (not-suc-le-zero h)
  get_d_places (suc n) f zero d h = refl
  get_d_places (suc n) f (suc i) d h = get_d_places n (λ j. f (suc j)) i d (le_of_suc-le-suc h)

  -- functions that agree below n have the same list there
  pub places_same : (n : ℕ) (f g : ℕ → A) → ((i : ℕ) → i < n → f i ≡ g i) → places n f ≡ places n g
  unfolding places
  places_same zero f g h = refl
  places_same (suc n) f g h =
      ap₂ ◌∷◌ (h zero (suc-le-suc zero-le)) (places_same n (λ i. f (suc i)) (λ i. g (suc i)) (λ i b. h (suc i) (suc-le-suc b)))

  -- the list of one value throughout
  pub places_replicate : (n : ℕ) (a : A) → replicate n a ≡ places n (λ i. a)
  unfolding places
  places_replicate zero a = refl
  places_replicate (suc n) a = ap (◌∷◌ a) (places_replicate n a)

  -- another value at k
  pub set_places : (n : ℕ) (f g : ℕ → A) (k : ℕ) → k < n → ((i : ℕ) → i ≢ k → f i ≡ g i) → set (places n f) k (g k) ≡ places n g
  unfolding places
  set_places zero f g k h same = absurd (not-suc-le-zero h)
  set_places (suc n) f g zero h same =
      ap (◌∷◌ (g zero)) (places_same n (λ i. f (suc i)) (λ i. g (suc i)) (λ i b. same (suc i) (omega arith)))
  set_places (suc n) f g (suc k) h same =
      ap₂ ◌∷◌ (same zero (omega arith))
      (set_places n (λ i. f (suc i)) (λ i. g (suc i)) k (le_of_suc-le-suc h) (λ i q. same (suc i) (omega arith)))

  -- a list is the list of its own places
  pub places_get_d : (l : List A) (d : A) → places (length l) (λ i. get_or l i d) ≡ l
  unfolding places
  places_get_d [] d = refl
  places_get_d (a ∷ l) d = ap (◌∷◌ a) (places_get_d l d)

  -- filled from the front: the first k values, and d behind them
  abbrev pub filled : (ℕ → A) → A → ℕ → ℕ → A
  filled f d k i = cond (ltb i k) (f i) d

  pub filled_none : (n : ℕ) (f : ℕ → A) (d : A) → replicate n d ≡ places n (filled f d 0)
  filled_none n f d = places_replicate n d ∙ places_same n (λ i. d) (filled f d 0) (λ i h. rw (le-ltb i 0 zero-le))

  pub filled_more : (n : ℕ) (f : ℕ → A) (d : A) (k : ℕ) → k < n → set (places n (filled f d k)) k (f k) ≡ places n (filled f d (suc k))
  filled_more n f d k h = rw (sym here) (set_places n (filled f d k) (filled f d (suc k)) k h (λ i q. elsewhere i q (dec_lt i k)))
    where
      here : filled f d (suc k) k ≡ f k
      here = rw (lt-ltb k (suc k) (omega arith))

      elsewhere : (i : ℕ) → i ≢ k → Dec (i < k) → filled f d k i ≡ filled f d (suc k) i
      elsewhere i q (yes b) = rw (lt-ltb i k b, lt-ltb i (suc k) (omega arith))
      elsewhere i q (no b) = rw (le-ltb i k (omega arith), le-ltb i (suc k) (omega arith))

  -- with d behind the first k this is all
  pub filled_whole : (n : ℕ) (f : ℕ → A) (d : A) (k : ℕ) → ((i : ℕ) → i < n → k ≤ i → f i ≡ d) → places n (filled f d k) ≡ places n f
  filled_whole n f d k behind = places_same n (filled f d k) f (λ i h. go i h (dec_lt i k))
    where
      go : (i : ℕ) → i < n → Dec (i < k) → filled f d k i ≡ f i
      go i h (yes b) = rw (lt-ltb i k b)
      go i h (no b) = rw (le-ltb i k (omega arith)) (sym (behind i h (omega arith)))

-- What a closure makes of each index in turn, where each call gives f's value there, in every state P of the closure that calls lead to.
module _ {F A : Type 0} (g : Mut F (ℕ × Unit {0}) A) (P : F → Type 0) (l : List A) (n : ℕ) (f : ℕ → A)
    (gives : (c d : F) (i : ℕ) (a : A) → P c → i < n → Called g c (i, tt) a d → (a ≡ f i) × P d) where
  made_from : (m i : ℕ) (c : F) → P c → i + m ≡ n → IsFromFnResultFrom g c l i m → (j : ℕ) → i ≤ j → j < n → get_or l j (f 0) ≡ f j
  made_from zero i c p e made j from to = let no : ⊥ = omega arith in absurd no
  made_from (suc m) i c p e (d, a, at, call, rest) j from to =
      let here = gives c d i a p (omega arith) call in
      go (ℕ_discrete i j) (at.1 (f 0) ∙ here.0) (λ more. made_from m (i + 1) d here.1 (omega arith) rest j more to)
    where
      go : Dec (i ≡ j) → get_or l i (f 0) ≡ f i → (i + 1 ≤ j → get_or l j (f 0) ≡ f j) → get_or l j (f 0) ≡ f j
      go (yes q) own later = rw (sym q) own
      go (no q) own later = later (omega arith)

  pub places_made : (c : F) → P c → IsFromFnResult g c l n → l ≡ places n f
  places_made c p made =
      sym (places_get_d l (f 0))
      ∙ rw made.long (places_same n (λ i. get_or l i (f 0)) f (λ i h. made_from n 0 c p (omega arith) made.each i (omega arith) h))
