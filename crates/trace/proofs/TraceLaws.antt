-- How a trace goes on: where a stretch has ended nothing later changes it, and a stretch puts its segment behind those before it.
use Prim.Native.Nat.{ℕ, zero, suc, ◌+◌, ◌-◌, ◌≤◌, ◌<◌}
use borrow.Author.Tests.{not-false}
use mathlib.Core.Bool.{Bool, true, false, not, cond}
use mathlib.Core.List.{[], ◌++◌, append-nil}
use mathlib.Core.Path.{◌≡◌, refl, sym, ◌∙◌, ap, ap₂, subst}
use native.Mathlib.Decide.{dec_lt}
use native.Mathlib.Nat.{add-suc, add-zero, le_antisymm, not-suc-le-zero, suc-add}
use native.Mathlib.Omega.{arith}
use Rattle.counting.proofs.FirstLaws.{first_is, first_none, first_more, first_before, first_le}
use Rattle.counting.specs.First.{first}
use Rattle.history.proofs.ChoiceLaws.{same_equal, same_refl}
use Rattle.history.specs.Choice.{Choice, History, same}
use Rattle.trace.specs.Trace.{begins, lasting, segments_of, begun, trace}

module _ (h : History) where
  -- the ticks from b on differ from the one at b
  abbrev pub differs : ℕ → ℕ → Bool
  differs b k = not (same (h b) (h (b + k)))

  -- a stretch that reaches a beginning ends there
  reaches_differs : (b e : ℕ) → b < suc e → begins h (suc e) ≡ true → first (suc e - b) (differs b) ≡ suc e - b
      → differs b (suc e - b) ≡ true
  unfolding begins
  reaches_differs b e l begin reach =
      subst (λ (x : Choice). not (same x (h (b + (suc e - b)))) ≡ true) (sym alike)
      (subst (λ (n : ℕ). not (same (h e) (h n)) ≡ true) (sym (there)) begin)
    where
      there : b + (suc e - b) ≡ suc e
      there = omega arith

      last : b + (e - b) ≡ e
      last = omega arith

      alike : h b ≡ h e
      alike =
          same_equal (h b) (h (b + (e - b)))
          (not-false (same (h b) (h (b + (e - b)))) (first_before (suc e - b) (differs b) (e - b) (omega (arith, reach)))) ∙ ap h last

  -- what begins before e has ended by then, whatever the horizon
  pub lasting_ended : (N e b : ℕ) → begins h e ≡ true → e ≤ N → b < e → lasting h N b ≡ lasting h e b
  unfolding lasting
  lasting_ended N zero b begin le l = absurd (not-suc-le-zero l)
  lasting_ended N (suc e) b begin le l = go (dec_lt (first (suc e - b) (differs b)) (suc e - b)) (dec_lt (suc e) N)
    where
      go : Dec (first (suc e - b) (differs b) < suc e - b) → Dec (suc e < N)
          → first (N - b) (differs b) ≡ first (suc e - b) (differs b)
      go (yes found) d = first_more (suc e - b) (N - b) (differs b) found (omega arith)
      go (no none) (no same) = ap (λ (n : ℕ). first (n - b) (differs b)) (le_antisymm (omega arith) le)
      go (no none) (yes more) =
          let reach : first (suc e - b) (differs b) ≡ suc e - b
          = le_antisymm (first_le (suc e - b) (differs b)) (omega arith) in
          first_is (N - b) (differs b) (suc e - b) (omega arith) (reaches_differs b e l begin reach)
          (λ j q. first_before (suc e - b) (differs b) j (omega (arith, reach)))
          ∙ sym reach

  begun_same : (N M t : ℕ) → ((b : ℕ) → b < t → lasting h N b ≡ lasting h M b) → begun h N t ≡ begun h M t
  unfolding begun
  begun_same N M zero all = refl
  begun_same N M (suc t) all =
      ap₂ ◌++◌ (begun_same N M t (λ b l. all b (omega arith)))
      (ap (λ (k : ℕ). cond (begins h t) (segments_of (h t) t k) []) (all t (omega arith)))

  pub begun_ended : (N e : ℕ) → begins h e ≡ true → e ≤ N → begun h N e ≡ trace h e
  begun_ended N e begin le = begun_same N e e (λ b l. lasting_ended N e b begin le l)

  begun_none : (N t k : ℕ) → ((q : ℕ) → q < k → begins h (t + q) ≡ false) → begun h N (t + k) ≡ begun h N t
  unfolding begun
  begun_none N t zero all = rw add-zero
  begun_none N t (suc k) all =
      rw (add-suc t k, all k (omega arith)) (append-nil (begun h N (t + k)) ∙ begun_none N t k (λ q b. all q (omega arith)))

  -- Of k + 1 ticks from e on that are all given alike.
  module _ (e k : ℕ) (x : Choice) (all : (q : ℕ) → q < suc k → h (e + q) ≡ x) where
    lasting_whole : lasting h (e + suc k) e ≡ suc k
    unfolding lasting
    lasting_whole =
        ap (λ (n : ℕ). first n (differs e)) (omega arith)
        ∙ first_none (suc k) (differs e)
        (λ q b. ap₂ (λ (y z : Choice). not (same y z)) (ap h (sym (add-zero e)) ∙ all 0 (omega arith)) (all q b) ∙ ap not (same_refl x))

    none_begins : (q : ℕ) → q < k → begins h (suc e + q) ≡ false
    unfolding begins
    none_begins q b =
        ap (begins h) (suc-add e q)
        ∙ ap₂ (λ (y z : Choice). not (same y z)) (all q (omega arith)) (ap h (sym (add-suc e q)) ∙ all (suc q) (omega arith))
        ∙ ap not (same_refl x)

    -- they put their segment behind those that ended before
    pub trace_stretch : begins h e ≡ true → trace h (e + suc k) ≡ trace h e ++ segments_of x e (suc k)
    unfolding begun
    trace_stretch begin =
        ap (begun h (e + suc k)) (add-suc e k ∙ sym (suc-add e k))
        ∙ begun_none (e + suc k) (suc e) k none_begins
        ∙ ap₂ ◌++◌ (begun_ended (e + suc k) e begin (omega arith)) here
      where
        here : cond (begins h e) (segments_of (h e) e (lasting h (e + suc k) e)) [] ≡ segments_of x e (suc k)
        here = rw (begin, lasting_whole, sym (add-zero e)) (rw (all 0 (omega arith)))
