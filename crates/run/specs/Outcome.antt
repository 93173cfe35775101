-- What a run answers, and what it leaves in the lent lists (document 01).
use Rattle.std.specs.Prelude.{ℕ, length, replicate, List}
use Rattle.finish.specs.Finish.{finish_list}
use Rattle.judgement.specs.Judgement.{judged}
use Rattle.refusal.specs.Refusals.{Said, refused, gave, accepted, on_paper}
use Rattle.sizes.specs.Sizes.{most_servers}
use Rattle.summary.specs.Summary.{trace_of, finishes, blank, summaries}
use Rattle.summary.specs.declared.Summary.{Summary}
use Rattle.trace.specs.Written.{written}
use Rattle.workfile.specs.Work.{Work, work}
use Rattle.run.specs.declared.Ran.{Ran}

-- an answer on paper, and the two lists after it
pub record Outcome : Type 0 where
  pub verdict : Said (Unit {0})
  pub segments : ℕ
  pub records : List Summary
  pub trace_left : List ℕ
  pub finishes_left : List ℕ

abbrev pub outcome_of : Said (Unit {0}) → ℕ → List Summary → List ℕ → List ℕ → Outcome
outcome_of v n s list ends = record { verdict = v; segments = n; records = s; trace_left = list; finishes_left = ends }

-- an accepted file: the count of all segments, the 64 records, the first segments, and every finish
abbrev pub accepted_run : Work → List ℕ → List ℕ → Outcome
accepted_run w list ends =
    outcome_of accepted (length (trace_of w)) (summaries w) (written (trace_of w) list) (finish_list w.arrivals (finishes w) ends)

-- a refused one: "changes no dispatcher and no lent list. A refused run also answers 64 blank records and a segment count of 0"
abbrev pub refused_run : ℕ → ℕ → List ℕ → List ℕ → Outcome
refused_run number place list ends = outcome_of (refused number place) 0 (replicate most_servers blank) list ends

abbrev pub run_of : Said (Unit {0}) → Work → List ℕ → List ℕ → Outcome
run_of (refused number place) w list ends = refused_run number place list ends
run_of (gave u) w list ends = accepted_run w list ends

-- the run of a file, beside a trace list and a finish list
unfoldable pub outcome : List ℕ → List ℕ → List ℕ → Outcome
outcome file list ends = run_of (judged file (length ends)) (work file) list ends

-- what the struct that a run answers says, with the lists after it
abbrev pub run_says : Ran → List ℕ → List ℕ → Outcome
run_says r list ends = outcome_of (on_paper r.verdict) r.segments r.summaries list ends
