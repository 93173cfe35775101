-- A history is one stretch behind the other: what each stretch hands on holds at every moment.
use Prim.Native.Nat.{ℕ, zero, suc, ◌+◌, ◌<◌}
use borrow.Author.Tests.{not-false}
use mathlib.Core.Bool.{Bool, true, false}
use mathlib.Core.Path.{◌≡◌, refl, sym, ◌∙◌, ap, subst}
use native.Mathlib.Nat.{add-suc, add-zero}
use native.Mathlib.Omega.{arith}
use Rattle.counting.proofs.BelowLaws.{below_suc}
use Rattle.history.proofs.ChoiceLaws.{same_equal}
use Rattle.history.specs.Choice.{History}
use Rattle.trace.specs.Trace.{begins}

-- the k ticks from e on are given as the one at e is
abbrev pub Alike : History → ℕ → ℕ → Type 0
Alike h e k = (q : ℕ) → q < k → h (e + q) ≡ h e

module _ (h : History) where
  -- a tick alone
  alike_one : (e : ℕ) → Alike h e 1
  alike_one e q b = ap h (omega arith)

  -- a tick at which no stretch begins is given as those before it are
  alike_more : (e k : ℕ) → begins h (suc (e + k)) ≡ false → Alike h e (suc k) → Alike h e (suc (suc k))
  unfolding begins
  alike_more e k on all =
      below_suc (λ (q : ℕ). h (e + q) ≡ h e) (suc k) all (ap h (add-suc e k) ∙ sym as_before ∙ all k (omega arith))
    where
      as_before : h (e + k) ≡ h (suc (e + k))
      as_before = same_equal (h (e + k)) (h (suc (e + k))) (not-false _ on)

  -- Of what holds at 0, and behind a stretch wherever it holds at its beginning.
  module _ (P : ℕ → Type 0) (none : P 0) (behind : (e k : ℕ) → begins h e ≡ true → Alike h e (suc k) → P e → P (e + suc k)) where
    -- the stretch that the tick at t is in, so far
    record Last (t : ℕ) : Type 0 where
      start : ℕ
      more : ℕ
      here : start + more ≡ t
      begin : begins h start ≡ true
      all : Alike h start (suc more)
      so : P start

    -- it holds behind that tick
    last_behind : (t : ℕ) → Last t → P (suc t)
    last_behind t l = subst P (omega arith) (behind l.start l.more l.begin l.all l.so)

    -- every tick is in one
    last : (t : ℕ) → Last t
    unfolding begins
    last zero = record { start = 0; more = 0; here = refl; begin = refl; all = alike_one 0; so = none }
    last (suc t) = go (begins h (suc t)) refl (last t)
      where
        go : (b : Bool) → begins h (suc t) ≡ b → Last t → Last (suc t)
        go true e l =
            record { start = suc t; more = 0; here = add-zero (suc t); begin = e; all = alike_one (suc t); so = last_behind t l }
        go false e l =
            record {
              start = l.start;
              more = suc l.more;
              here = omega arith;
              begin = l.begin;
              all = alike_more l.start l.more (ap (λ (n : ℕ). begins h (suc n)) l.here ∙ e) l.all;
              so = l.so;
            }

    -- it holds at every moment
    pub by_stretches : (t : ℕ) → P t
    by_stretches zero = none
    by_stretches (suc t) = last_behind t (last t)
