-- `report::job_lines` meets its promise: after k turns the lines of the first k jobs are added.
use Prim.Native.Nat.{ℕ}
use lib.ListN.{length-take}
use lib.Seq.{length-take-le}
use Rattle.std.proofs.lemmas.List.{get_or-take}
use mathlib.Core.Path.{sym, ◌∙◌, ap₂}
use native.Mathlib.Omega.{arith}
use Rattle.arrival.specs.declared.Arrival.{Arrival}
use Rattle.books.proofs.Accepted.{arrival_read, arrivals_read}
use Rattle.finish.specs.Finish.{finish_of}
use Rattle.page.proofs.PageLaws.{adds_as, each_none, each_next, each_all}
use Rattle.report.specs.DayReport.{job_with}
use Rattle.report.proofs.job_lines.Goals as goal

pub slice_bounds-finish-items-end : goal.slice_bounds-finish-items-end
slice_bounds-finish-items-end c =
    sym (length-take-le _ _ (omega (arith, arrivals_read _ c.header_of-h.ensures, c.requires.accepted.fit.arrivals, c.requires.finishes_len)))

pub loop-k-init : goal.loop-k-init
loop-k-init c = each_none _ _

pub loop-k-preserved : goal.loop-k-preserved
loop-k-preserved c =
    let l = c.loop-k in
    let count = c.header_of-h.result.arrivals.count in
    let finishes = c.args.finishes.now in
    each_next _ l.k l.invariant
    (adds_as
    (ap₂ (λ (a : Arrival) (n : ℕ). job_with a l.k (finish_of n))
    (c.arrival_of.ensures ∙ arrival_read _ c.header_of-h.ensures l.k)
    (get_or-take count finishes l.k 0 (omega (arith, c.loop-k-test.true, length-take count finishes))))
    c.job.ensures)

pub returns : goal.returns
returns c =
    let read = arrivals_read _ c.header_of-h.ensures in
    let all = length-take-le c.header_of-h.result.arrivals.count c.args.finishes.now
    (omega (arith, read, c.requires.accepted.fit.arrivals, c.requires.finishes_len)) in
    each_all _ _ _ (omega (arith, c.loop-k.auto.k-end, all, read)) (omega (arith, c.loop-k-test.false, all, read)) c.loop-k.invariant
