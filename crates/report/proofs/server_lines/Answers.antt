-- `report::server_lines` meets its promise: after i turns the lines of the first i servers are added.
use Rattle.page.proofs.PageLaws.{each_none, each_next}
use Rattle.report.proofs.server_lines.Goals as goal

pub loop-i-init : goal.loop-i-init
loop-i-init c = each_none _ _

pub loop-i-preserved : goal.loop-i-preserved
loop-i-preserved c = each_next _ c.loop-i.i c.loop-i.invariant c.server.ensures
