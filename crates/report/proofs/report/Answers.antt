-- `report::report` meets its promise: the verdict of the run tells which of the two reports it is.
use Prim.Native.Nat.{ℕ}
use lib.ListN.{replicate, length-replicate}
use mathlib.Core.List.{List}
use mathlib.Core.Path.{◌≡◌, sym}
use Rattle.report.proofs.RanLaws.{ran_told, report_accepted, report_refused, Left}
use Rattle.run.specs.declared.Ran.{Ran}
use Rattle.run.specs.Outcome.{outcome, run_says}
use Rattle.sizes.specs.Sizes.{most_arrivals, trace_numbers}
use Rattle.page.proofs.PageLaws.{adds_as}
use Rattle.report.proofs.report.Goals as goal

-- what the run has left of lists that held nothing but 0
left : (file after ended : List ℕ) (r : Ran) → run_says r after ended ≡ outcome file (replicate trace_numbers 0) (replicate most_arrivals 0)
    → Left file after ended r
left file after ended r e =
    record {
      list = replicate trace_numbers 0;
      ends = replicate most_arrivals 0;
      list_long = length-replicate {A = ℕ} trace_numbers 0;
      ends_long = length-replicate {A = ℕ} most_arrivals 0;
      ran_is = e;
    }

pub accepted-requires : goal.accepted-requires
accepted-requires c = ran_told (left _ _ _ c.run-ran.result c.run-ran.ensures) c.in-Ok.is

pub returns-in-Ok : goal.returns-in-Ok
returns-in-Ok c =
    adds_as (sym (report_accepted (left _ _ _ c.run-ran.result c.run-ran.ensures) c.in-Ok.is)) c.accepted.ensures

pub returns-in-Err : goal.returns-in-Err
returns-in-Err c =
    adds_as (sym (report_refused (left _ _ _ c.run-ran.result c.run-ran.ensures) _ c.in-Err.is)) c.refused.ensures
