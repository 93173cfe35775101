-- What a run leaves in its lists satisfies demand 3, so what they tell of a window is within its server's bandwidth.
use Prim.Native.Nat.{ℕ, ◌+◌, ◌≤◌, ◌<◌}
use borrow.Author.Tests.{eq-eqb, leb-true, lt-leb, ltb-true}
use lib.Dec.{ltb}
use lib.ListN.{length}
use mathlib.Core.Bool.{true}
use mathlib.Core.List.{List}
use mathlib.Core.Path.{◌≡◌, ◌∙◌, ap, ap₂}
use native.Mathlib.Nat.{le_trans, mul-le-mul_left}
use native.Mathlib.Numerals.{add-one}
use native.Mathlib.Omega.{arith}
use Rattle.arrival.specs.declared.Arrival.{Arrival}
use Rattle.booking.proofs.ShareLaws.{Sound, period_le_frame}
use Rattle.callers.proofs.TracesLaws.{ran_list_demand_3, ran_no_work}
use Rattle.clock.specs.Clock.{last_tick}
use Rattle.counting.proofs.BelowLaws.{every_at}
use Rattle.counting.proofs.PlacesLaws.{length_places}
use Rattle.counting.proofs.SumLaws.{sum_first}
use Rattle.counting.proofs.TestLaws.{and_left, and_right}
use Rattle.counting.specs.Sum.{sum}
use Rattle.finish.specs.Finish.{finish_list}
use Rattle.judgement.proofs.FitLaws.{judged_fit}
use Rattle.std.specs.Prelude.{Ok}
use Rattle.run.proofs.OutcomeLaws.{ran_judged, ran_accepting}
use Rattle.run.specs.Outcome.{Outcome, outcome, run_says}
use Rattle.run.specs.declared.Ran.{Ran}
use Rattle.sizes.specs.Sizes.{clock_end}
use Rattle.workfile.specs.Work.{work}
use Rattle.test_in_time.specs.declared.bandwidth.Window.{Window}
use Rattle.test_in_time.specs.Working.Bandwidth.{Allowed}
use Rattle.test_in_time.specs.Working.Lists.{AfterRun, in_run, is_done, all_done, got_by}
use Rattle.test_in_time.proofs.BandwidthLaws.{spent_fits}

-- one number more, and that the sum so far then is no more than that of all
module _ (f : ℕ → ℕ) {k added more : ℕ} (so_far : added ≡ sum k f) (one : more ≡ f k) where
  pub sum_next : added + more ≡ sum (k + 1) f
  unfolding sum
  sum_next = rw (add-one k) (ap₂ ◌+◌ so_far one)

  pub sum_next_small : (n : ℕ) → k < n → added + more ≤ sum n f
  sum_next_small n h = rw sum_next (sum_first n (k + 1) f (omega (arith, h)))

-- A call of `run`, by its contract, that answers `Ok`.
module _ (file list ends after ended : List ℕ) (r : Ran) (said : run_says r after ended ≡ outcome file list ends)
    (answer : r.verdict ≡ Ok tt) where
  ended_length : length ended ≡ length ends
  unfolding finish_list
  ended_length = ap (λ (o : Outcome). length o.finishes_left) (ran_accepting file list ends after ended r said answer) ∙ length_places _ _

  pub ran_left : AfterRun file after r.segments ended
  ran_left =
      record {
        fit = rw ended_length (judged_fit file (length ends) (ran_judged file list ends after ended r said answer));
        demand = ran_list_demand_3 file list ends after ended r said answer;
        no_work = ran_no_work file list ends after ended r said answer;
      }

-- a job of the window's server that arrived before its start has finished by then
done_told : (w : Window) (job : Arrival) (finish : ℕ) → is_done w job finish ≡ true → job.server ≡ w.server
    → job.moment.tick < w.from.tick → finish ≤ w.from.tick
done_told w job finish e own early = leb-true _ _ (rw (eq-eqb _ _ own, lt-leb _ _ early) at e)

module _ {file list ends : List ℕ} {segments : ℕ} (left : AfterRun file list segments ends) (w : Window) (within_run : in_run w (work file) ≡ true) where
  run_known : w.server < (work file).table.count
  run_known = ltb-true _ _ (and_left _ _ within_run)

  run_sound : Sound (work file).frame ((work file).table.booking w.server)
  run_sound = left.fit.admitted.sound w.server run_known

  module _ (done : all_done w (work file) ends ≡ true) (by : w.to.tick ≤ clock_end) where
    pub run_allowed : Allowed ((work file).table.booking w.server) w (got_by w segments list)
    run_allowed =
        record {
          within =
              left.demand.bandwidth w.server w.from.tick run_known
              (left.no_work w.server w.from.tick (leb-true _ _ (and_right (ltb w.server (work file).table.count) _ within_run))
              (λ k listed. done_told w ((work file).arrival k) _ (every_at _ _ done k listed)))
              w.to;
          budget =
              le_trans run_sound.fits (le_trans (period_le_frame (work file).frame _ run_sound left.fit.frame_from) left.fit.frame_to);
          to = by;
        }

    -- and it is a number of 64 bits, since T is at least 1
    pub run_got_fits : got_by w segments list ≤ last_tick
    run_got_fits =
        omega (arith, mul-le-mul_left (got_by w segments list) (le_trans run_sound.budget run_sound.fits), spent_fits run_allowed)
