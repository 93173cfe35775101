-- Choices that are the same are equal; and how the ticks of a server add up.
use Prim.Native.Nat.{ℕ, suc, ◌+◌, ◌≤◌, ◌<◌}
use borrow.Author.Tests.{eqb-true, eq-eqb, ne_eqb}
use lib.Dec.{eqb}
use mathlib.Core.Bool.{Bool, true, false, not, false≢true}
use mathlib.Core.Path.{◌≡◌, refl, ◌∙◌, ap, ap₂}
use Rattle.clock.specs.Clock.{moment}
use Rattle.clock.specs.declared.Moment.{Moment}
use Rattle.counting.proofs.CountLaws.{count_all, count_more, count_none, count_step}
use Rattle.counting.proofs.TestLaws.{and_left, and_right, and_both}
use Rattle.counting.specs.Count.{count}
use Rattle.history.specs.Choice.{Choice, nobody, given, History, same, is_for, is_for_another, ticks_served}

pub same_refl : (x : Choice) → same x x ≡ true
unfolding same
same_refl nobody = refl
same_refl (given i d) = and_both (eq-eqb i i refl) (eq-eqb d.tick d.tick refl)

pub same_equal : (x y : Choice) → same x y ≡ true → x ≡ y
unfolding same
same_equal nobody nobody e = refl
same_equal nobody (given j f) e = absurd (false≢true e)
same_equal (given i d) nobody e = absurd (false≢true e)
same_equal (given i d) (given j f) e =
    ap₂ given (eqb-true i j (and_left (eqb i j) (eqb d.tick f.tick) e))
    (ap moment (eqb-true d.tick f.tick (and_right (eqb i j) (eqb d.tick f.tick) e)))

pub same_differ : (x y : Choice) → (x ≡ y → ⊥) → same x y ≡ false
same_differ x y n = go (same x y) refl
  where
    go : (b : Bool) → same x y ≡ b → same x y ≡ false
    go true e = absurd (n (same_equal x y e))
    go false e = e

-- a tick that is given to a server is not idle, and tells its deadline
is_given : Choice → Bool
is_given nobody = false
is_given (given i d) = true

pub nobody≢given : {i : ℕ} {d : Moment} → nobody ≡ given i d → ⊥
unfolding is_given
nobody≢given e = false≢true (ap is_given e)

deadline_of : Choice → Moment
deadline_of nobody = moment 0
deadline_of (given i d) = d

pub given_deadline : {i j : ℕ} {d e : Moment} → given i d ≡ given j e → d ≡ e
unfolding deadline_of
given_deadline e = ap deadline_of e

-- Of a stretch of k ticks from t on that are all given to server i.
module _ (h : History) (i : ℕ) where
  pub served_start : ticks_served h i 0 ≡ 0
  unfolding ticks_served count
  served_start = refl

  pub served_step : (t : ℕ) → (ticks_served h i t ≤ ticks_served h i (suc t)) × (ticks_served h i (suc t) ≤ ticks_served h i t + 1)
  unfolding ticks_served
  served_step t = count_step t (λ u. is_for i (h u))

  pub served_more : (t k : ℕ) → ticks_served h i t ≤ ticks_served h i (t + k)
  unfolding ticks_served
  served_more t k = count_more t k (λ u. is_for i (h u))

  pub served_own : (t k : ℕ) (d : Moment) → ((q : ℕ) → q < k → h (t + q) ≡ given i d) → ticks_served h i (t + k) ≡ ticks_served h i t + k
  unfolding ticks_served is_for
  served_own t k d all = count_all t k (λ u. is_for i (h u)) (λ q b. ap (is_for i) (all q b) ∙ eq-eqb i i refl)

  -- and that are all given to another, or to nobody
  pub served_other : (t k : ℕ) (x : Choice) → is_for i x ≡ false → ((q : ℕ) → q < k → h (t + q) ≡ x)
      → ticks_served h i (t + k) ≡ ticks_served h i t
  unfolding ticks_served
  served_other t k x away all = count_none t k (λ u. is_for i (h u)) (λ q b. ap (is_for i) (all q b) ∙ away)

pub for_other : (i j : ℕ) (d : Moment) → (i ≡ j → ⊥) → is_for i (given j d) ≡ false
unfolding is_for
for_other i j d n = ne_eqb i j n

pub for_nobody : (i : ℕ) → is_for i nobody ≡ false
unfolding is_for
for_nobody i = refl

-- a tick given to another server than i goes to another; i's own does not, nor does an idle one
pub another_given : (i j : ℕ) (d : Moment) → (i ≡ j → ⊥) → is_for_another i (given j d) ≡ true
unfolding is_for_another
another_given i j d n = ap not (ne_eqb i j n)

pub another_own : (i : ℕ) (d : Moment) → is_for_another i (given i d) ≡ false
unfolding is_for_another
another_own i d = ap not (eq-eqb i i refl)

pub another_nobody : (i : ℕ) → is_for_another i nobody ≡ false
unfolding is_for_another
another_nobody i = refl
