-- What a run says, with the lists after it, tells its answer and the lists.
use mathlib.Core.List.{List}
use mathlib.Core.Path.{◌≡◌, ◌∙◌, ap, ap₂}
use Prim.Native.Nat.{ℕ}
use Rattle.refusal.proofs.OnPaperLaws.{answer_told}
use Rattle.refusal.specs.declared.Refusal.{Refusal}
use Rattle.std.specs.Prelude.{Result}
use Rattle.summary.specs.declared.Summary.{Summary}
use Rattle.run.specs.declared.Ran.{Ran}
use Rattle.run.specs.Outcome.{Outcome, run_says}

pub ran_told : (r s : Ran) (l k e f : List ℕ) → run_says r l e ≡ run_says s k f
    → (r ≡ s) × (◌≡◌ {A = List ℕ × List ℕ} (l, e) (k, f))
ran_told r s l k e f p = (
  ap₂ (λ (v : Result (Unit {0}) Refusal) (n : ℕ). record { verdict = v; segments = n; summaries = r.summaries })
      (answer_told r.verdict s.verdict (ap (λ (o : Outcome). o.verdict) p))
      (ap (λ (o : Outcome). o.segments) p)
      ∙ ap (λ (m : List Summary). record { verdict = s.verdict; segments = s.segments; summaries = m })
      (ap (λ (o : Outcome). o.records) p),
  ap (λ (o : Outcome). (o.trace_left, o.finishes_left)) p,
)
