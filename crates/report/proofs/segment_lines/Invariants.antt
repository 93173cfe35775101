-- `report::segment_lines` meets its promise: after k turns the lines of the first k segments are added.
use Rattle.page.specs.Page.{Added, each}
use Rattle.report.specs.DayReport.{segment_line}
use Rattle.trace.specs.Written.{segment_in}
use Rattle.report.proofs.segment_lines.Given as goal

abbrev pub invariant-loop-k : goal.invariant-loop-k
invariant-loop-k l = Added (each l.k (λ j. segment_line (segment_in l.list j))) l.initial.text l.text
