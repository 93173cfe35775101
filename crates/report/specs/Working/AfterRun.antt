-- How the report's text comes from what a run leaves: segments are read back from the trace list, and finishes from the finish list.
use Rattle.std.specs.Prelude.{ℕ, length, get_or, List, ◌≡◌}
use Rattle.books.proofs.Accepted.{Accepted}
use Rattle.finish.specs.Finish.{finish_of, finish_list}
use Rattle.sizes.specs.Sizes.{most_arrivals, trace_numbers}
use Rattle.summary.specs.Summary.{trace_of, finishes, summaries}
use Rattle.summary.specs.declared.Summary.{Summary}
use Rattle.trace.specs.Written.{written}
use Rattle.workfile.specs.Work.{Work, work}
use Rattle.report.specs.DayReport.{job_with}

-- the line of job k by a finish list
abbrev pub job_in : Work → List ℕ → ℕ → List ℕ
job_in w ends k = job_with (w.arrival k) k (finish_of (get_or ends k 0))

-- What the report has of a file that was accepted, when the run is over: its lists, the count and the records.
pub record AfterRun (file list ends : List ℕ) (segments : ℕ) (records : List Summary) : Type 0 where
  pub accepted : Accepted file
  pub list_before : List ℕ
  pub ends_before : List ℕ
  pub list_long : length list_before ≡ trace_numbers
  pub ends_long : length ends_before ≡ most_arrivals
  pub list_is : list ≡ written (trace_of (work file)) list_before
  pub ends_is : ends ≡ finish_list (work file).arrivals (finishes (work file)) ends_before
  pub segments_is : segments ≡ length (trace_of (work file))
  pub records_is : records ≡ summaries (work file)
