-- `day_report::whole_report` meets its promise: the text has room for any report.
use lib.Seq.{length-take-le}
use mathlib.Core.Path.{sym}
use native.Mathlib.Omega.{arith}
use Rattle.report.proofs.LengthLaws.{report_whole}
use Rattle.page.proofs.PageLaws.{added_within}
use Rattle.day_report.proofs.whole_report.Goals as goal

pub returns : goal.returns
returns c =
    let made = c.day_report.ensures in
    let within = added_within _ _ made (omega arith) in
    record { prefix_len = (within, sym (length-take-le _ _ within)); text_after = report_whole _ _ _ _ c.requires made }
