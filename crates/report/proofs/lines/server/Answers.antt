-- `report::lines::server` meets its promise: its parts one behind the other are the line.
use Rattle.page.proofs.PageLaws.{adds_as, adds_then}
use Rattle.report.specs.DayReport.{server_line, total_field, longest_field}
use Rattle.std.specs.Prelude.{codes}
use Rattle.text.specs.Line.{bytes_of, decimal}
use Rattle.report.proofs.PartsLaws.{two_parts, three_parts}
use Rattle.report.proofs.lines.server.Goals as goal

pub returns : goal.returns
unfolding server_line
returns c =
    let s = c.args.s in
    adds_as (three_parts (codes "server ") (decimal c.args.i) (codes " arrived ") (decimal s.arrived) (codes " finished ") (decimal s.finished) _)
    (adds_then c.numbers.ensures
    (adds_as (two_parts (codes " total ") (bytes_of (total_field s.response)) (codes " longest ") (bytes_of (longest_field s.response)) _)
    (adds_then c.responses.ensures
    (adds_as (two_parts (codes " postponed ") (decimal s.postponed) (codes " interrupted ") (decimal s.interrupted) _) c.line.ensures))))
