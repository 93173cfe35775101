-- What a lent list is with segment k put into it, told place by place: it comes to what is told by the page (`trace/Written: put`).
use Prim.Native.Nat.{ℕ, ◌+◌, ◌-◌, ◌*◌, ◌/◌, ◌≤◌, ◌<◌}
use borrow.Author.Tests.{le-leb, lt-leb, lt-ltb, le-ltb}
use lib.Dec.{leb, ltb}
use lib.ListN.{length, get_or, set, length-set}
use lib.Seq.{get_or-set_same, get_or-set_other, ext_get_or}
use mathlib.Core.Bool.{cond, ◌&&◌}
use mathlib.Core.List.{List}
use mathlib.Core.Logic.{◌⊎◌, inl, inr}
use mathlib.Core.Path.{◌≡◌, sym, ◌∙◌, ap, subst⁻¹}
use native.Mathlib.Decide.{dec_lt, ℕ_discrete}
use native.Mathlib.Nat.{add-sub_cancel_left, add-zero}
use native.Mathlib.Omega.{arith}
use Rattle.counting.proofs.PlacesLaws.{length_places, get_d_places}
use Rattle.counting.specs.Places.{places}
use Rattle.trace.specs.Written.{numbers, put}
use Rattle.trace.specs.declared.Segment.{Segment}
use Rattle.trace.proofs.WrittenLaws.{put_short, put_fits}

-- number p of the list: one of the segment's four, from 4 × k on, or what stood there
abbrev pub placed : ℕ → Segment → List ℕ → ℕ → ℕ
placed k s list p = cond (leb (4 * k) p && ltb p (4 * k + 4)) (get_or (numbers s) (p - 4 * k) 0) (get_or list p 0)

-- where it fits
module _ (k : ℕ) (s : Segment) (list : List ℕ) (fits : k < length list / 4) where
  abbrev one : List ℕ
  one = set list (4 * k) s.start.tick

  abbrev two : List ℕ
  two = set one (4 * k + 1) s.length.ticks

  abbrev three : List ℕ
  three = set two (4 * k + 2) s.server

  abbrev four : List ℕ
  four = set three (4 * k + 3) s.deadline.tick

  -- number n of the segment stands n places behind 4 × k
  inside : (n : ℕ) → n < 4 → placed k s list (4 * k + n) ≡ get_or (numbers s) n 0
  inside n b =
      rw (le-leb (4 * k) (4 * k + n) (omega arith), lt-ltb (4 * k + n) (4 * k + 4) (omega arith))
      (ap (λ (m : ℕ). get_or (numbers s) m 0) (add-sub_cancel_left (4 * k) n))

  outside : (p : ℕ) → (p < 4 * k) ⊎ (4 * k + 4 ≤ p) → placed k s list p ≡ get_or list p 0
  outside p (inl before) = rw (lt-leb (4 * k) p before)
  outside p (inr behind) = rw (le-leb (4 * k) p (omega arith), le-ltb p (4 * k + 4) behind)

  -- place by place
  at_place : (p : ℕ) → p < length list → get_or four p 0 ≡ placed k s list p
  at_place p b = go (ℕ_discrete p (4 * k + 3)) (ℕ_discrete p (4 * k + 2)) (ℕ_discrete p (4 * k + 1)) (ℕ_discrete p (4 * k))
    where
      go : Dec (p ≡ 4 * k + 3) → Dec (p ≡ 4 * k + 2) → Dec (p ≡ 4 * k + 1) → Dec (p ≡ 4 * k) → get_or four p 0 ≡ placed k s list p
      go (yes q) d c a =
          subst⁻¹ (λ (n : ℕ). get_or four n 0 ≡ placed k s list n) q
          (get_or-set_same three (4 * k + 3) s.deadline.tick 0 (simp length-set (omega arith)) ∙ sym (inside 3 (omega arith)))
      go (no d) (yes q) c a =
          get_or-set_other three (4 * k + 3) p s.deadline.tick 0 d
          ∙ subst⁻¹ (λ (n : ℕ). get_or three n 0 ≡ placed k s list n) q
          (get_or-set_same two (4 * k + 2) s.server 0 (simp length-set (omega arith)) ∙ sym (inside 2 (omega arith)))
      go (no d) (no c) (yes q) a =
          get_or-set_other three (4 * k + 3) p s.deadline.tick 0 d
          ∙ get_or-set_other two (4 * k + 2) p s.server 0 c
          ∙ subst⁻¹ (λ (n : ℕ). get_or two n 0 ≡ placed k s list n) q
          (get_or-set_same one (4 * k + 1) s.length.ticks 0 (simp length-set (omega arith)) ∙ sym (inside 1 (omega arith)))
      go (no d) (no c) (no e) (yes q) =
          get_or-set_other three (4 * k + 3) p s.deadline.tick 0 d
          ∙ get_or-set_other two (4 * k + 2) p s.server 0 c
          ∙ get_or-set_other one (4 * k + 1) p s.length.ticks 0 e
          ∙ subst⁻¹ (λ (n : ℕ). get_or one n 0 ≡ placed k s list n) q
          (get_or-set_same list (4 * k) s.start.tick 0 (omega arith) ∙ sym (ap (placed k s list) (sym (add-zero (4 * k))) ∙ inside 0 (omega arith)))
      go (no d) (no c) (no e) (no a) =
          get_or-set_other three (4 * k + 3) p s.deadline.tick 0 d
          ∙ get_or-set_other two (4 * k + 2) p s.server 0 c
          ∙ get_or-set_other one (4 * k + 1) p s.length.ticks 0 e
          ∙ get_or-set_other list (4 * k) p s.start.tick 0 a
          ∙ sym (outside p (away (dec_lt p (4 * k))))
        where
          away : Dec (p < 4 * k) → (p < 4 * k) ⊎ (4 * k + 4 ≤ p)
          away (yes before) = inl before
          away (no behind) = inr (omega arith)

  fits_placed : put k s list ≡ places (length list) (placed k s list)
  fits_placed =
      put_fits k s list fits
      ∙ ext_get_or 0 four (places (length list) (placed k s list)) long
      (λ p b. at_place p (within p b) ∙ sym (get_d_places (length list) (placed k s list) p 0 (within p b)))
    where
      same : length four ≡ length list
      same = simp length-set

      long : length four ≡ length (places (length list) (placed k s list))
      long = same ∙ sym (length_places (length list) (placed k s list))

      within : (p : ℕ) → p < length four → p < length list
      within p b = omega (arith, same)

pub put_placed : (k : ℕ) (s : Segment) (list : List ℕ)
    → put k s list ≡ cond (leb (4 * k + 4) (length list)) (places (length list) (placed k s list)) list
put_placed k s list = go (dec_lt k (length list / 4))
  where
    go : Dec (k < length list / 4) → put k s list ≡ cond (leb (4 * k + 4) (length list)) (places (length list) (placed k s list)) list
    go (yes fits) = rw (le-leb (4 * k + 4) (length list) (omega arith)) (fits_placed k s list fits)
    go (no short) = rw (lt-leb (4 * k + 4) (length list) (omega arith)) (put_short k s list (omega arith))
