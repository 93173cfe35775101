-- `report::segment_lines` meets its promise: after k turns the lines of the first k segments are added.
use mathlib.Core.Path.{ap}
use Rattle.page.proofs.PageLaws.{adds_as, each_none, each_next}
use Rattle.report.specs.DayReport.{segment_line}
use Rattle.report.proofs.segment_lines.Goals as goal

pub loop-k-init : goal.loop-k-init
loop-k-init c = each_none _ _

pub loop-k-preserved : goal.loop-k-preserved
loop-k-preserved c = each_next _ c.loop-k.k c.loop-k.invariant (adds_as (ap segment_line c.segment_at.ensures) c.segment.ensures)
