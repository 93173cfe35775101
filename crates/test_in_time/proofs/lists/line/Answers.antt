-- `test_in_time::lists::line` is safe: the finish list tells that the server has no work waiting, so by demand 3 what the trace list tells of
-- it is within its bandwidth.
use mathlib.Core.Path.{sym, ◌∙◌}
use Rattle.test_in_time.proofs.ListsLaws.{run_allowed, run_got_fits}
use Rattle.test_in_time.proofs.lists.line.Goals as goal

pub got-requires : goal.got-requires
got-requires g c =
    let left = c.requires.after_run in
    let within_run = sym c.is_in_run.ensures ∙ c.if-is_in_run.true in
    let done = sym c.is_idle.ensures ∙ c.if-is_idle.true in
    record {
      all_in_time = left.demand.in_time;
      list_bound = run_got_fits left c.args.w within_run done c.requires.tick_le_clock_end;
    }

pub line-requires : goal.line-requires
line-requires g c =
    let within_run = sym c.is_in_run.ensures ∙ c.if-is_in_run.true in
    let done = sym c.is_idle.ensures ∙ c.if-is_idle.true in
    rw (c.booking_of.ensures, c.got.ensures)
    (run_allowed c.requires.after_run c.args.w within_run done c.requires.tick_le_clock_end)
