-- `run::run` meets its promise: the verdict is the judgement, and each of its two cases has its outcome.
use mathlib.Core.Path.{refl, sym, ◌∙◌, ap}
use Rattle.refusal.specs.declared.Refusal.{Refusal}
use Rattle.std.specs.Prelude.{Result}
use Rattle.refusal.specs.Refusals.{on_paper}
use Rattle.run.specs.Outcome.{run_says}
use Rattle.run.proofs.OutcomeLaws.{made, outcome_accepted, outcome_refused}
use Rattle.run.proofs.run.Goals as goal

pub returns-in_default : goal.returns-in_default
returns-in_default c =
    let told = c.in_default.is in
    let a = c.args in
    ap
    (λ (v : Result (Unit {0}) Refusal). run_says (record { verdict = v; segments = 0; summaries = c.blank_records.result }) a.list.now a.finishes.now)
    told
    ∙ made _ refl c.blank_records.ensures refl refl
    ∙ sym (outcome_refused _ _ _ (sym c.judge-verdict.ensures ∙ ap on_paper told))

pub returns : goal.returns
returns c =
    c.play.ensures
    ∙ sym (outcome_accepted _ _ _ (sym c.judge-verdict.ensures ∙ ap on_paper c.in-Ok.is))
