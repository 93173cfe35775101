-- `report::server_lines` meets its promise: after i turns the lines of the first i servers are added.
use lib.ListN.{get_or}
use Rattle.page.specs.Page.{Added, each}
use Rattle.report.specs.DayReport.{server_line}
use Rattle.summary.specs.Summary.{blank}
use Rattle.report.proofs.server_lines.Given as goal

abbrev pub invariant-loop-i : goal.invariant-loop-i
invariant-loop-i l = Added (each l.i (λ j. server_line j (get_or l.records j blank))) l.initial.text l.text
