-- Demand 3 for the trace of a work's run, segment by segment: of the whole trace, and of what a lent trace list holds of it.
use Rattle.std.specs.Prelude.{ℕ, ◌≤◌, ◌<◌, length, List, ◌≡◌}
use Rattle.clock.specs.Clock.{moment}
use Rattle.clock.specs.declared.Moment.{Moment}
use Rattle.counting.specs.Sum.{sum}
use Rattle.demand_3.specs.Files.{NoWorkAt}
use Rattle.demand_3.specs.Got.{is_under, WithinBandwidth}
use Rattle.judgement.specs.Judgement.{judged}
use Rattle.refusal.specs.Refusals.{accepted}
use Rattle.run.specs.Outcome.{outcome}
use Rattle.summary.specs.Summary.{trace_of}
use Rattle.trace.specs.Segments.{EverySegment}
use Rattle.trace.specs.Ticks.{end_of, ticks_of, sum_over}
use Rattle.trace.specs.Written.{fitting, segment_in}
use Rattle.trace.specs.declared.Segment.{Segment}
use Rattle.workfile.specs.Work.{Work, work}

-- a segment, and so each of its ticks, ends no later than the deadline that it was given under
abbrev pub InTime : Segment → Type 0
InTime s = (end_of s).tick ≤ s.deadline.tick

module _ (w : Work) where
  -- the ticks of a segment at moment a or later, where it is server i's under a deadline no later than b, else none
  abbrev pub got_in : (i a : ℕ) → Moment → Segment → ℕ
  got_in i a b = ticks_of (is_under i b) (moment a)

  -- the whole trace
  pub record TraceDemand3 : Type 0 where
    pub in_time : EverySegment InTime (trace_of w)
    pub bandwidth : (i a : ℕ) → i < w.table.count → NoWorkAt w i a → (b : Moment)
        → WithinBandwidth (w.table.booking i) (moment a) b (sum_over (got_in i a b) (trace_of w))

  -- the trace list after a run that answers so many segments: of as many as it holds
  pub record ListDemand3 (segments : ℕ) (list : List ℕ) : Type 0 where
    pub in_time : (k : ℕ) → k < fitting segments list → InTime (segment_in list k)
    pub bandwidth : (i a : ℕ) → i < w.table.count → NoWorkAt w i a → (b : Moment)
        → WithinBandwidth (w.table.booking i) (moment a) b (sum (fitting segments list) (λ k. got_in i a b (segment_in list k)))

-- Of the trace of every accepted file; and of the count of segments and the trace list that its run gives. `TracesLaws` proves both.
abbrev pub OfTheirTraces : Type 0
OfTheirTraces = (file : List ℕ) (places : ℕ) → judged file places ≡ accepted → TraceDemand3 (work file)

abbrev pub OfTheirTraceLists : Type 0
OfTheirTraceLists =
    (file list ends : List ℕ) → judged file (length ends) ≡ accepted
    → ListDemand3 (work file) (outcome file list ends).segments (outcome file list ends).trace_left
