-- A job finishes after the moment at which it arrives: by then the run has served no more than the earlier arrivals bring.
use Prim.Native.Nat.{ℕ, suc, ◌<◌}
use mathlib.Core.List.{List}
use mathlib.Core.Path.{◌≡◌, refl}
use native.Mathlib.Decide.{dec_lt}
use native.Mathlib.Omega.{arith}
use Rattle.clock.specs.Clock.{moment}
use Rattle.finish.proofs.FinishLaws.{finish_after}
use Rattle.finish.specs.Finish.{work_of, finished_at}
use Rattle.history.specs.Choice.{ticks_served}
use Rattle.judgement.proofs.FitLaws.{Fit, judged_fit}
use Rattle.judgement.specs.Judgement.{judged}
use Rattle.moments.specs.Moments.{history}
use Rattle.refusal.specs.Refusals.{accepted}
use Rattle.summary.specs.Summary.{finishes}
use Rattle.workfile.specs.Work.{Work, work}
use Rattle.books.proofs.Travel.BeforeArrivals.{Before, stands_before}
use Rattle.books.proofs.Jobs.Jobs.{work_own, work_to}

module _ {w : Work} {places : ℕ} (fit : Fit w places) where
  -- at its arrival moment a job has work that is not yet served
  unserved : (k : ℕ) → k < w.arrivals
      → ticks_served (history w) (w.arrival k).server (w.arrival k).moment.tick < work_of w (w.arrival k).server (suc k)
  unserved k listed = go (dec_lt k b.count)
    where
      b : Before w (w.arrival k).moment.tick
      b = stands_before fit (w.arrival k).moment.tick (omega (arith, fit.in_time k listed))

      go : Dec (k < b.count)
          → ticks_served (history w) (w.arrival k).server (w.arrival k).moment.tick < work_of w (w.arrival k).server (suc k)
      go (yes l) = let no : ⊥ = omega (arith, b.earlier k l) in absurd no
      go (no l) =
          omega (
            arith,
            b.stands.adds (w.arrival k).server,
            work_to w (w.arrival k).server b.count k (omega arith),
            work_own w (w.arrival k).server k refl,
            (fit.sound k listed).from,
          )

-- "A job's response is finish minus arrival moment, at least 1."
pub response_positive : (file : List ℕ) (places : ℕ) → judged file places ≡ accepted → (k t : ℕ) → k < (work file).arrivals
    → finishes (work file) k ≡ finished_at (moment t) → ((work file).arrival k).moment.tick < t
response_positive file places e k t listed finished =
    let w = work file in
    finish_after (history w) (w.arrival k).server (work_of w (w.arrival k).server (suc k)) w.horizon.tick t
    (w.arrival k).moment.tick
    finished
    (unserved (judged_fit file places e) k listed)
