-- `records::fill` meets its promise: each turn puts the counts into one record more.
use mathlib.Core.Path.{◌≡◌}
use Rattle.records.specs.Working.Job.{filled}
use Rattle.records.proofs.fill.Given as goal

abbrev pub invariant-loop-i : goal.invariant-loop-i
invariant-loop-i l = l.records ≡ filled l.i l.postponed l.interrupted l.initial.records
