-- The promise of this crate allows one outcome, and asks nothing: the text at exit and where the report ends in it are given whole.
use Rattle.page.proofs.PageLaws.{page_apart}
use Rattle.promise.specs.AsksNothing.{AsksNothing}
use Rattle.promise.specs.OneOutcome.{OneOutcomeLent}
use Rattle.promise.proofs.OneOutcomeLaws.{both_are}
use Rattle.report.proofs.day_report.Reads as day-report

pub day_report_one : OneOutcomeLent day-report.Post (λ l e. e.1.0.now)
day_report_one l a x y at_x at_y p q = page_apart (both_are p q)

pub day_report_asks : AsksNothing day-report.Pre
day_report_asks l a given = tt
