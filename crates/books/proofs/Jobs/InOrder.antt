-- Jobs of one server finish in the order in which they arrived.
use Prim.Native.Nat.{ℕ, suc, ◌≤◌, ◌<◌}
use mathlib.Core.List.{List}
use mathlib.Core.Path.{◌≡◌, refl, ◌∙◌, subst⁻¹}
use native.Mathlib.Decide.{dec_lt}
use native.Mathlib.Omega.{arith}
use Rattle.clock.specs.Clock.{moment}
use Rattle.finish.proofs.FinishLaws.{finish_found, finish_served, finish_stays, served_to}
use Rattle.finish.specs.Finish.{finished_at, served_by, work_of}
use Rattle.history.specs.Choice.{ticks_served}
use Rattle.judgement.proofs.FitLaws.{Fit, judged_fit}
use Rattle.judgement.specs.Judgement.{judged}
use Rattle.moments.specs.Moments.{history}
use Rattle.refusal.specs.Refusals.{accepted}
use Rattle.summary.specs.Summary.{finishes}
use Rattle.workfile.specs.Work.{Work, work}
use Rattle.books.proofs.Jobs.Jobs.{work_own, work_to}

module _ {w : Work} {places : ℕ} (fit : Fit w places) (j k : ℕ) (earlier : j < k) (known : k < w.arrivals)
    (same : (w.arrival j).server ≡ (w.arrival k).server) (t : ℕ) (finished : finishes w k ≡ finished_at (moment t)) where
  abbrev i : ℕ
  i = (w.arrival k).server

  abbrev N : ℕ
  N = w.horizon.tick

  -- job k asks for more, as it costs something
  less : work_of w i (suc j) < work_of w i (suc k)
  less = omega (arith, work_own w i k refl, work_to w i (suc j) k earlier, (fit.sound k known).from)

  served_under : (ticks_served (history w) i t ≡ work_of w i (suc k)) × (t ≤ N)
  served_under = finish_served (history w) i (work_of w i (suc k)) N t finished

  -- so what job j asks for was served before
  in_order : (u : ℕ) × (finishes w j ≡ finished_at (moment u)) × (u < t)
  in_order =
      let found = finish_found (history w) i (work_of w i (suc j)) t (omega (arith, less, served_under.0)) in
      let stays = finish_stays (history w) i (work_of w i (suc j)) t N (omega (arith, less, served_under.0)) served_under.1 in (
        found.0,
        subst⁻¹ (λ (s : ℕ). served_by (history w) s (work_of w s (suc j)) N ≡ finished_at (moment found.0)) same (stays ∙ found.1),
        before found.0 found.2 (dec_lt found.0 t),
      )
    where
      before : (u : ℕ) → ticks_served (history w) i u ≡ work_of w i (suc j) → Dec (u < t) → u < t
      before u e (yes l) = l
      before u e (no l) = let no : ⊥ = omega (arith, less, served_under.0, served_to (history w) i (work_of w i (suc j)) t u (omega arith)) in absurd no

-- "Jobs of one server are served in arrival order": of two jobs of one server the one listed first finishes first.
pub finishes_in_order : (file : List ℕ) (places : ℕ) → judged file places ≡ accepted → (j k : ℕ) → j < k → k < (work file).arrivals
    → ((work file).arrival j).server ≡ ((work file).arrival k).server → (t : ℕ) → finishes (work file) k ≡ finished_at (moment t)
    → (u : ℕ) × (finishes (work file) j ≡ finished_at (moment u)) × (u < t)
finishes_in_order file places e = in_order (judged_fit file places e)
