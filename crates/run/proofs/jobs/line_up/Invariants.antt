-- `run::jobs::line_up` meets its promise: each turn puts one arrival more before those that are lined up.
use Prim.Native.Nat.{◌≤◌}
use mathlib.Core.Path.{◌≡◌}
use Rattle.books.proofs.Jobs.Lined.{Lined}
use Rattle.workfile.specs.Work.{work}
use Rattle.run.proofs.jobs.line_up.Given as goal

abbrev pub invariant-loop-k : goal.invariant-loop-k
invariant-loop-k l = record { lined : Lined (work l.file) l.k l.lines.job l.lines.behind; left : l.lines.left ≡ l.initial.lines.left; within : l.k ≤ (work l.file).arrivals }
