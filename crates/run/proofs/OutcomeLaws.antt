-- An outcome is told by its parts, and is that of the file's judgement.
use Prim.Native.Nat.{ℕ}
use lib.ListN.{length}
use mathlib.Core.List.{List}
use mathlib.Core.Path.{◌≡◌, refl, sym, ◌∙◌, ap, ap₂}
use Rattle.judgement.specs.Judgement.{judged}
use Rattle.refusal.specs.Refusals.{Said, refused, gave, accepted, on_paper}
use Rattle.std.specs.Prelude.{Ok}
use Rattle.summary.specs.declared.Summary.{Summary}
use Rattle.workfile.specs.Work.{work}
use Rattle.run.specs.declared.Ran.{Ran}
use Rattle.run.specs.Outcome.{Outcome, outcome_of, accepted_run, refused_run, run_of, outcome, run_says}

-- equal parts make equal outcomes
pub made : (v : Said (Unit {0})) {n m : ℕ} {s r : List Summary} {l k : List ℕ} {e f : List ℕ} → n ≡ m → s ≡ r → l ≡ k → e ≡ f
    → outcome_of v n s l e ≡ outcome_of v m r k f
made v {m = m} {r = r} {l = l} {e = e} p q t u =
    ap₂ (λ (n : ℕ) (s : List Summary). outcome_of v n s l e) p q ∙ ap₂ (λ (l e : List ℕ). outcome_of v m r l e) t u

module _ (file list ends : List ℕ) where
  pub outcome_accepted : judged file (length ends) ≡ accepted → outcome file list ends ≡ accepted_run (work file) list ends
  unfolding outcome
  outcome_accepted e = ap (λ (s : Said (Unit {0})). run_of s (work file) list ends) e

  pub outcome_refused : {number place : ℕ} → judged file (length ends) ≡ refused number place
      → outcome file list ends ≡ refused_run number place list ends
  unfolding outcome
  outcome_refused e = ap (λ (s : Said (Unit {0})). run_of s (work file) list ends) e

  -- the verdict of a run is the judgement of its file
  pub outcome_verdict : (outcome file list ends).verdict ≡ judged file (length ends)
  unfolding outcome
  outcome_verdict = go (judged file (length ends))
    where
      go : (s : Said (Unit {0})) → (run_of s (work file) list ends).verdict ≡ s
      go (refused number place) = refl
      go (gave u) = refl

  -- Of a call that answers `Ok`, with the lists after it.
  module _ (after ended : List ℕ) (r : Ran) (said : run_says r after ended ≡ outcome file list ends) (answer : r.verdict ≡ Ok tt) where
    pub ran_judged : judged file (length ends) ≡ accepted
    ran_judged = sym (ap (λ (o : Outcome). o.verdict) said ∙ outcome_verdict) ∙ ap on_paper answer

    pub ran_accepting : run_says r after ended ≡ accepted_run (work file) list ends
    ran_accepting = said ∙ outcome_accepted ran_judged
