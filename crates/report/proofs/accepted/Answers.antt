-- `report::accepted` meets its promise: the parts of the report are added one behind the other.
use Prim.Native.Nat.{ℕ}
use lib.ListN.{get_or}
use mathlib.Core.Path.{ap, ap₂}
use native.Mathlib.Omega.{arith}
use Rattle.books.proofs.Accepted.{frame_read, servers_read}
use Rattle.clock.specs.declared.Length.{Length}
use Rattle.page.proofs.PageLaws.{adds_as}
use Rattle.page.specs.Page.{each}
use Rattle.report.proofs.ReportLaws.{ends_long, report_told}
use Rattle.report.specs.DayReport.{admitted_line, server_line}
use Rattle.summary.specs.Summary.{blank}
use Rattle.report.proofs.accepted.Goals as goal

pub job_lines-requires-clause-finishes_len : goal.job_lines-requires-clause-finishes_len
job_lines-requires-clause-finishes_len c = ends_long c.requires

pub server_lines-requires : goal.server_lines-requires
server_lines-requires c = omega (arith, servers_read _ c.header_of-h.ensures, c.requires.accepted.fit.servers)

pub returns : goal.returns
returns c =
    let read = c.header_of-h.ensures in
    report_told c.requires _ c.min-shown.ensures
    (adds_as (ap₂ admitted_line c.shares.ensures (ap (λ (l : Length). l.ticks) (frame_read _ read))) c.admitted.ensures)
    c.segment_lines.ensures
    c.segments.ensures
    c.job_lines.ensures
    (adds_as (ap (λ (n : ℕ). each n (λ i. server_line i (get_or c.args.records i blank))) (servers_read _ read)) c.server_lines.ensures)
