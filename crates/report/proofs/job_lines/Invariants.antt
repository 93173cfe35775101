-- `report::job_lines` meets its promise: after k turns the lines of the first k jobs are added.
use Rattle.page.specs.Page.{Added, each}
use Rattle.report.specs.Working.AfterRun.{job_in}
use Rattle.workfile.specs.Work.{work}
use Rattle.report.proofs.job_lines.Given as goal

abbrev pub invariant-loop-k : goal.invariant-loop-k
invariant-loop-k l = Added (each l.k (job_in (work l.file) l.finishes)) l.initial.text l.text
