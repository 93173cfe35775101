-- The stretch of ticks that a run is in.
use Prim.Native.Nat.{ℕ, zero, suc, ◌+◌, ◌-◌, ◌≤◌, ◌<◌}
use borrow.Author.Tests.{lt-ltb, le-ltb}
use lib.Dec.{ltb}
use mathlib.Core.Bool.{true, not, cond}
use mathlib.Core.List.{◌++◌, append-nil}
use mathlib.Core.Path.{◌≡◌, refl, sym, ◌∙◌, ap, ap₂}
use native.Mathlib.Decide.{dec_lt, ℕ_discrete}
use native.Mathlib.Nat.{add-zero}
use native.Mathlib.Omega.{arith}
use Rattle.clock.specs.declared.Moment.{Moment}
use Rattle.history.proofs.ChoiceLaws.{same_differ}
use Rattle.history.specs.Choice.{Choice, nobody, given, same}
use Rattle.moments.specs.Moments.{history}
use Rattle.sizes.specs.Sizes.{most_servers}
use Rattle.trace.proofs.TraceLaws.{trace_stretch}
use Rattle.trace.specs.Trace.{begins, segments_of, trace}
use Rattle.workfile.specs.Work.{Work}
use Rattle.books.specs.declared.Current.{Current}

-- a server under a deadline, or nobody where the number is that of no server
unfoldable pub chosen : ℕ → Moment → Choice
chosen i d = cond (ltb i most_servers) (given i d) nobody

pub chosen_server : (i : ℕ) (d : Moment) → i < most_servers → chosen i d ≡ given i d
unfolding chosen
chosen_server i d l = rw (lt-ltb i most_servers l)

pub chosen_nobody : (i : ℕ) (d : Moment) → most_servers ≤ i → chosen i d ≡ nobody
unfolding chosen
chosen_nobody i d l = rw (le-ltb i most_servers l)

-- what a stretch is given to
abbrev pub chosen_in : Current → Choice
chosen_in c = chosen c.server c.deadline

-- The run is in a stretch at t: the ticks from e to t are all given to x, and the one before e is not.
pub record InStretch (w : Work) (e t : ℕ) (x : Choice) : Type 0 where
  pub begin : begins (history w) e ≡ true
  pub alike : (q : ℕ) → e + q < t → history w (e + q) ≡ x
  pub from : e ≤ t
  pub late : 0 < t → e < t
  pub first : t ≡ 0 → x ≡ nobody

pub stretch_start : (w : Work) → InStretch w 0 0 nobody
unfolding begins
stretch_start w =
    record {
      begin = refl;
      alike = λ q b. let no : ⊥ = omega arith in absurd no;
      from = omega arith;
      late = λ b. let no : ⊥ = omega arith in absurd no;
      first = λ z. refl;
    }

module _ {w : Work} {e t : ℕ} {x : Choice} (s : InStretch w e t x) where
  -- it goes on
  pub stretch_on : (k : ℕ) → ((q : ℕ) → q < suc k → history w (t + q) ≡ x) → InStretch w e (t + suc k) x
  stretch_on k all =
      record {
        begin = s.begin;
        alike = λ q b. alike q b (dec_lt (e + q) t);
        from = omega (arith, s.from);
        late = λ b. omega (arith, s.from);
        first = λ z. let no : ⊥ = omega arith in absurd no;
      }
    where
      alike : (q : ℕ) → e + q < t + suc k → Dec (e + q < t) → history w (e + q) ≡ x
      alike q b (yes l) = s.alike q l
      alike q b (no l) = ap (history w) (omega arith) ∙ all (e + q - t) (omega arith)

  -- or another begins
  another_begins : (y : Choice) → (x ≡ y → ⊥) → history w t ≡ y → begins (history w) t ≡ true
  unfolding begins
  another_begins y n here = go t refl
    where
      go : (u : ℕ) → u ≡ t → begins (history w) u ≡ true
      go zero q = refl
      go (suc u) q =
          let last : history w u ≡ x = ap (history w) (omega (arith, s.late (omega arith))) ∙ s.alike (u - e)
          (omega (arith, s.late (omega arith))) in
          ap₂ (λ (a b : Choice). not (same a b)) last (ap (history w) q ∙ here) ∙ ap not (same_differ x y n)

  pub stretch_new : (k : ℕ) (y : Choice) → (x ≡ y → ⊥) → ((q : ℕ) → q < suc k → history w (t + q) ≡ y) → InStretch w t (t + suc k) y
  stretch_new k y n all =
      record {
        begin = another_begins y n (ap (history w) (sym (add-zero t)) ∙ all 0 (omega arith));
        alike = λ q b. all q (omega arith);
        from = omega arith;
        late = λ b. omega arith;
        first = λ z. let no : ⊥ = omega arith in absurd no;
      }

  -- the trace up to now is what ended before the stretch, and its segment
  pub stretch_trace : trace (history w) t ≡ trace (history w) e ++ segments_of x e (t - e)
  stretch_trace = go (t - e) refl
    where
      go : (k : ℕ) → t - e ≡ k → trace (history w) t ≡ trace (history w) e ++ segments_of x e k
      go zero q =
          let same : e ≡ t = omega (arith, s.from) in
          let start : t ≡ 0 = zeroth (ℕ_discrete t 0) in
          ap (trace (history w)) (sym same)
          ∙ sym (append-nil (trace (history w) e))
          ∙ ap (λ (y : Choice). trace (history w) e ++ segments_of y e 0) (sym (s.first start))
        where
          zeroth : Dec (t ≡ 0) → t ≡ 0
          zeroth (yes z) = z
          zeroth (no z) = let no : ⊥ = omega (arith, s.late (omega arith)) in absurd no
      go (suc k) q =
          let whole : t ≡ e + suc k = omega (arith, s.from) in
          ap (trace (history w)) whole
          ∙ trace_stretch (history w) e k x (λ r b. s.alike r (omega arith)) s.begin
