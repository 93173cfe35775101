-- `records::of_arrivals` meets its promise: after k turns the records are what the first k arrivals tell.
use mathlib.Core.Path.{◌≡◌}
use Rattle.workfile.specs.Work.{work_under}
use Rattle.records.specs.Working.Job.{records_up_to}
use Rattle.records.proofs.of_arrivals.Given as goal

abbrev pub invariant-loop-k : goal.invariant-loop-k
invariant-loop-k l = l.records ≡ records_up_to (work_under l.h l.file) l.finishes l.k
