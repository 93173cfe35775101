-- The ticks of a trace's segments are those that its history gives.
use Prim.Native.Nat.{ℕ, suc, ◌+◌, ◌-◌, ◌<◌, min}
use mathlib.Core.Bool.{Bool, true, false, cond}
use mathlib.Core.List.{List, [], ◌∷◌, ◌++◌}
use mathlib.Core.Path.{◌≡◌, refl, sym, ◌∙◌, ap, ap₂}
use native.Mathlib.Nat.{add-zero}
use native.Mathlib.Omega.{arith}
use Rattle.clock.specs.declared.Moment.{Moment}
use Rattle.counting.proofs.CountLaws.{count_empty, count_all, count_none}
use Rattle.counting.specs.Count.{count}
use Rattle.history.specs.Choice.{Choice, nobody, given, History}
use Rattle.trace.specs.declared.Segment.{Segment}
use Rattle.trace.proofs.StretchLaws.{by_stretches}
use Rattle.trace.specs.Ticks.{ticks_of, sum_over}
use Rattle.trace.specs.Trace.{segments_of, begun, trace}
use Rattle.trace.proofs.TraceLaws.{trace_stretch}

-- two lists add up to what each does
pub sum_over_append : (f : Segment → ℕ) (l m : List Segment) → sum_over f (l ++ m) ≡ sum_over f l + sum_over f m
unfolding sum_over
sum_over_append f [] m = omega arith
sum_over_append f (s ∷ l) m = omega (arith, sum_over_append f l m)

-- Of a test that no idle tick passes, and the ticks at moment a or later.
module _ (h : History) (p : Choice → Bool) (idle : p nobody ≡ false) (a : Moment) where
  -- the tick q moments behind a passes
  abbrev passes : ℕ → Bool
  passes q = p (h (a.tick + q))

  -- how many of k ticks from e on lie at a or later
  abbrev inside : ℕ → ℕ → ℕ
  inside e k = min k (e + k - a.tick)

  -- what their segment adds
  segments_added : (x : Choice) (e k : ℕ) → sum_over (ticks_of p a) (segments_of x e k) ≡ cond (p x) (inside e k) 0
  unfolding sum_over
  segments_added nobody e k = rw idle
  segments_added (given i d) e k = add-zero _

  -- k ticks from e on that are all given alike all pass, or none does
  alike_counted : (x : Choice) (e k : ℕ) → ((q : ℕ) → q < k → h (e + q) ≡ x)
      → count (e + k - a.tick) passes ≡ count (e - a.tick) passes + cond (p x) (inside e k) 0
  alike_counted x e k all = ap (λ (n : ℕ). count n passes) (omega arith) ∙ go (p x) refl
    where
      each : (q : ℕ) → q < inside e k → passes (e - a.tick + q) ≡ p x
      each q b = ap p (ap h (omega arith) ∙ all (a.tick - e + q) (omega arith))

      go : (b : Bool) → p x ≡ b → count (e - a.tick + inside e k) passes ≡ count (e - a.tick) passes + cond b (inside e k) 0
      go true so = count_all (e - a.tick) (inside e k) passes (λ q b. each q b ∙ so)
      go false so = count_none (e - a.tick) (inside e k) passes (λ q b. each q b ∙ so) ∙ sym (add-zero _)

  -- the ticks of the segments that pass are as many as the moments whose tick passes
  pub trace_counted : (N : ℕ) → sum_over (ticks_of p a) (trace h N) ≡ count (N - a.tick) (λ q. p (h (a.tick + q)))
  unfolding sum_over begun
  trace_counted =
      by_stretches h (λ (N : ℕ). sum_over (ticks_of p a) (trace h N) ≡ count (N - a.tick) passes)
      (sym (ap (λ (n : ℕ). count n passes) (omega arith) ∙ count_empty passes))
      (λ e k begin all so. ap (sum_over (ticks_of p a)) (trace_stretch h e k (h e) all begin)
      ∙ sum_over_append (ticks_of p a) (trace h e) (segments_of (h e) e (suc k))
      ∙ ap₂ ◌+◌ so (segments_added (h e) e (suc k))
      ∙ sym (alike_counted (h e) e (suc k) all))
