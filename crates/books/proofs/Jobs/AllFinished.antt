-- A server whose jobs have all finished has no work waiting.
use Prim.Native.Nat.{ℕ, zero, suc, ◌≤◌, ◌<◌}
use lib.ListN.{length, get_or}
use mathlib.Core.List.{List}
use mathlib.Core.Path.{◌≡◌, ap, subst}
use native.Mathlib.Decide.{dec_lt, ℕ_discrete}
use native.Mathlib.Omega.{arith}
use Rattle.clock.specs.Clock.{moment}
use Rattle.dispatcher.specs.Pick.{server_at}
use Rattle.dispatcher.specs.declared.Dispatcher.{Dispatcher}
use Rattle.finish.proofs.FinishLaws.{finish_after}
use Rattle.finish.proofs.ListLaws.{list_shows, shown_finished}
use Rattle.finish.specs.Finish.{work_of, finished_at, served_by, finish, finish_list}
use Rattle.history.specs.Choice.{ticks_served}
use Rattle.judgement.proofs.FitLaws.{Fit, judged_fit}
use Rattle.judgement.specs.Judgement.{judged}
use Rattle.moments.specs.Moments.{history, waiting_at}
use Rattle.refusal.specs.Refusals.{accepted}
use Rattle.summary.specs.Summary.{finishes}
use Rattle.workfile.specs.Work.{Work, work}
use Rattle.books.proofs.Travel.BeforeArrivals.{Before, stands_before, before_is}
use Rattle.books.proofs.Jobs.Jobs.{work_none, work_other}

-- Server i, each of whose jobs that arrived before moment a has finished by then.
module _ (w : Work) (a i : ℕ)
    (finished : (k : ℕ) → k < w.arrivals → (w.arrival k).server ≡ i → (w.arrival k).moment.tick < a
    → (t : ℕ) × (finish w (history w) w.horizon.tick k ≡ finished_at (moment t)) × (t ≤ a)) where
  -- a job of the server has its work served, with that of the jobs before it
  job_served : (k : ℕ) → k < w.arrivals → (w.arrival k).server ≡ i → (w.arrival k).moment.tick < a
      → work_of w i (suc k) ≤ ticks_served (history w) i a
  job_served k listed own early = go (finished k listed own early) (dec_lt (ticks_served (history w) i a) (work_of w i (suc k)))
    where
      go : (t : ℕ) × (finish w (history w) w.horizon.tick k ≡ finished_at (moment t)) × (t ≤ a)
          → Dec (ticks_served (history w) i a < work_of w i (suc k)) → work_of w i (suc k) ≤ ticks_served (history w) i a
      go f (no more) = omega arith
      go (t, e, le) (yes less) =
          let no : ⊥ = omega (
            arith,
            finish_after (history w) i (work_of w i (suc k)) w.horizon.tick t a
                (subst (λ (s : ℕ). served_by (history w) s (work_of w s (suc k)) w.horizon.tick ≡ finished_at (moment t)) own e)
                less,
          ) in
          absurd no

  -- so all its work of earlier arrivals is served
  work_served : (j : ℕ) → j ≤ w.arrivals → ((k : ℕ) → k < j → (w.arrival k).moment.tick < a)
      → work_of w i j ≤ ticks_served (history w) i a
  work_served zero few early = omega (arith, work_none w i)
  work_served (suc j) few early =
      go (ℕ_discrete (w.arrival j).server i) (work_served j (omega arith) (λ k b. early k (omega arith)))
    where
      go : Dec ((w.arrival j).server ≡ i) → work_of w i j ≤ ticks_served (history w) i a → work_of w i (suc j) ≤ ticks_served (history w) i a
      go (yes own) before = job_served j few own (early j (omega arith))
      go (no other) before = omega (arith, work_other w i j other)

-- Where every job of server i that arrived before a moment has finished by then, it has no work waiting.
idle_by : {w : Work} {places : ℕ} → Fit w places → (a i : ℕ) → a ≤ w.horizon.tick
    → ((k : ℕ) → k < w.arrivals → (w.arrival k).server ≡ i → (w.arrival k).moment.tick < a
    → (t : ℕ) × (finishes w k ≡ finished_at (moment t)) × (t ≤ a))
    → waiting_at w i a ≡ 0
unfolding waiting_at
idle_by {w} fit a i within finished =
    let b : Before w a = stands_before fit a within in
    omega (
      arith,
      b.stands.adds i,
      work_served w a i finished b.count b.stands.count b.earlier,
      ap (λ (d : Dispatcher). (server_at d i).waiting.ticks) (before_is fit within b),
    )

-- Of an accepted file.
pub finished_idle : (file : List ℕ) (places : ℕ) → judged file places ≡ accepted → (a i : ℕ) → a ≤ (work file).horizon.tick
    → ((k : ℕ) → k < (work file).arrivals → ((work file).arrival k).server ≡ i → ((work file).arrival k).moment.tick < a
    → (t : ℕ) × (finishes (work file) k ≡ finished_at (moment t)) × (t ≤ a))
    → waiting_at (work file) i a ≡ 0
finished_idle file places e = idle_by (judged_fit file places e)

-- the same, told from the finish list that its run leaves
pub list_finished_idle : (file before : List ℕ) → judged file (length before) ≡ accepted → (a i : ℕ) → a ≤ (work file).horizon.tick
    → ((k : ℕ) → k < (work file).arrivals → ((work file).arrival k).server ≡ i → ((work file).arrival k).moment.tick < a
    → get_or (finish_list (work file).arrivals (finishes (work file)) before) k 0 ≤ a)
    → waiting_at (work file) i a ≡ 0
list_finished_idle file before e a i within told =
    let w = work file in
    let fit = judged_fit file (length before) e in
    idle_by fit a i within
    (λ k listed own early. shown_finished (finishes w k) a (omega (arith, fit.horizon))
    (subst (λ (n : ℕ). n ≤ a) (list_shows w.arrivals (finishes w) before k listed fit.finishes) (told k listed own early)))
