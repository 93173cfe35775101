-- Demand 3 holds of the trace of every accepted file, and of what `run` leaves of it in the lent trace list.
use Prim.Native.Nat.{ℕ, ◌+◌, ◌-◌, ◌≤◌, ◌<◌}
use borrow.Author.Tests.{eq-eqb}
use lib.ListN.{length, get_or}
use mathlib.Core.List.{List}
use mathlib.Core.Logic.{inl}
use mathlib.Core.Path.{◌≡◌, ap, subst⁻¹}
use native.Mathlib.Nat.{le_trans, mul-le-mul_right}
use native.Mathlib.Omega.{arith}
use Rattle.books.proofs.Jobs.AllFinished.{list_finished_idle}
use Rattle.clock.specs.Clock.{moment}
use Rattle.demand_3.proofs.CourseLaws.{under_nobody}
use Rattle.demand_3.proofs.FilesLaws.{file_demand_3}
use Rattle.demand_3.specs.Files.{NoWorkAt, FileDemand3}
use Rattle.demand_3.specs.Got.{is_under}
use Rattle.dispatcher.specs.Pick.{server_at}
use Rattle.moments.specs.Moments.{at_moment, history, waiting_at}
use Rattle.std.specs.Prelude.{Ok}
use Rattle.run.proofs.OutcomeLaws.{outcome_accepted, ran_judged, ran_accepting}
use Rattle.run.specs.Outcome.{Outcome, run_says, outcome}
use Rattle.run.specs.declared.Ran.{Ran}
use Rattle.summary.specs.Summary.{trace_of}
use Rattle.trace.proofs.HeldLaws.{held_has, held_added}
use Rattle.trace.proofs.SegmentLaws.{every_map, trace_stretches}
use Rattle.trace.proofs.TickLaws.{trace_counted}
use Rattle.trace.proofs.WrittenLaws.{written_length}
use Rattle.trace.specs.Segments.{Stretch}
use Rattle.trace.specs.Written.{fitting, written}
use Rattle.trace.specs.declared.Segment.{Segment}
use Rattle.workfile.specs.Work.{Work, work}
use Rattle.callers.specs.Traces.{InTime, got_in, TraceDemand3, ListDemand3, OfTheirTraces, OfTheirTraceLists}

-- a stretch of ticks under one deadline ends by it, since its last tick does
stretch_in_time : {w : Work} → FileDemand3 w → (s : Segment) → Stretch (history w) w.horizon.tick s → InTime s
stretch_in_time {w} ok s one =
    let last = ok.ticks_in_time s.server (s.start.tick + (s.length.ticks - 1)) s.deadline
    (omega (arith, one.some, one.ends))
    (one.all (s.length.ticks - 1) (omega (arith, one.some))) in
    omega (arith, last, one.some)

-- what holds moment by moment holds segment by segment
by_segments : {w : Work} → FileDemand3 w → TraceDemand3 w
by_segments {w} ok =
    record {
      in_time = every_map (stretch_in_time ok) (trace_of w) (trace_stretches (history w) w.horizon.tick);
      bandwidth = λ i a known none b.
          rw (trace_counted (history w) (is_under i b) (under_nobody i b) (moment a) w.horizon.tick) (ok.bandwidth i a known none b);
    }

-- and of the segments that are written to a list
written_demand_3 : {w : Work} → TraceDemand3 w → (list : List ℕ) → ListDemand3 w (length (trace_of w)) (written (trace_of w) list)
written_demand_3 {w} ok list =
    record {
      in_time = λ k h. held_has InTime tr list ok.in_time k (omega arith) (omega (arith, written_length tr list));
      bandwidth = λ i a known none b.
          le_trans
          (mul-le-mul_right (w.table.booking i).period.ticks
          (held_added (got_in w i a b) tr list (fitting (length tr) (written tr list)) (omega arith) (omega (arith, written_length tr list))))
          (ok.bandwidth i a known none b);
    }
  where
    tr : List Segment
    tr = trace_of w

pub trace_demand_3 : OfTheirTraces
trace_demand_3 file places e = by_segments (file_demand_3 file places e)

pub list_demand_3 : OfTheirTraceLists
list_demand_3 file list ends e =
    subst⁻¹ (λ (o : Outcome). ListDemand3 (work file) o.segments o.trace_left) (outcome_accepted file list ends e)
    (written_demand_3 (trace_demand_3 file (length ends) e) list)

-- Of a call of `run`, by its contract, that answers `Ok`.
module _ (file list ends after ended : List ℕ) (r : Ran) (said : run_says r after ended ≡ outcome file list ends)
    (answer : r.verdict ≡ Ok tt) where
  -- its file's run satisfies demand 3
  pub ran_file_demand_3 : FileDemand3 (work file)
  ran_file_demand_3 = file_demand_3 file (length ends) (ran_judged file list ends after ended r said answer)

  -- and so does what it leaves in the trace list
  pub ran_list_demand_3 : ListDemand3 (work file) r.segments after
  ran_list_demand_3 =
      subst⁻¹ (λ (o : Outcome). ListDemand3 (work file) o.segments o.trace_left) said
      (list_demand_3 file list ends (ran_judged file list ends after ended r said answer))

  -- A server has no work waiting at a, if the finish list tells of each of its jobs that arrived before a that it has finished by then.
  pub ran_no_work : (i a : ℕ) → a ≤ (work file).horizon.tick
      → ((k : ℕ) → k < (work file).arrivals → ((work file).arrival k).server ≡ i → ((work file).arrival k).moment.tick < a → get_or ended k 0 ≤ a)
      → NoWorkAt (work file) i a
  unfolding waiting_at
  ran_no_work i a within told =
      inl
      (eq-eqb (server_at (at_moment (work file) a) i).waiting.ticks 0
      (list_finished_idle file ends (ran_judged file list ends after ended r said answer) a i within
      (λ k listed own early.
      rw (ap (λ (o : Outcome). o.finishes_left) (ran_accepting file list ends after ended r said answer)) at (told k listed own early))))
