-- `test_in_time::lists::is_idle` meets its promise: after k turns none of the first k jobs waits, and the first that does is enough.
use Prim.Native.Nat.{ℕ, ◌<◌}
use lib.ListN.{get_or}
use mathlib.Core.Bool.{Bool}
use mathlib.Core.List.{List}
use mathlib.Core.Path.{◌≡◌, refl, sym, ◌∙◌, ap}
use native.Mathlib.Omega.{arith}
use Rattle.arrival.specs.declared.Arrival.{Arrival}
use Rattle.books.proofs.Accepted.{arrival_read, arrivals_read}
use Rattle.counting.proofs.BelowLaws.{every_fails, every_next}
use Rattle.counting.specs.Below.{every}
use Rattle.workfile.specs.Work.{work}
use Rattle.test_in_time.specs.declared.bandwidth.Window.{Window}
use Rattle.test_in_time.specs.Working.Lists.{is_done}
use Rattle.test_in_time.proofs.lists.is_idle.Goals as goal

-- whether job j of a file does not wait
abbrev done : Window → List ℕ → List ℕ → ℕ → Bool
done w file ends j = is_done w ((work file).arrival j) (get_or ends j 0)

pub loop-k-init : goal.loop-k-init
unfolding every
loop-k-init c = refl

-- job k is one of the file's, which has few, and has its place in the finish list
pub offset_bounds-finishes-k : goal.offset_bounds-finishes-k
offset_bounds-finishes-k c = omega (arith, arrivals_read _ c.header_of-h.ensures, c.requires.arrivals)

pub bounds-finishes-k : goal.bounds-finishes-k
bounds-finishes-k c = omega (arith, arrivals_read _ c.header_of-h.ensures, c.requires.finishes)

pub returns-then-not-is_done : goal.returns-then-not-is_done
returns-then-not-is_done c =
    let here : c.loop-k.k < (work c.args.file.now).arrivals = omega (arith, c.loop-k-test.true, arrivals_read _ c.header_of-h.ensures) in
    let job = c.arrival_of-job.ensures ∙ arrival_read _ c.header_of-h.ensures _ in
    let one = c.is_done.ensures ∙ ap (λ (job : Arrival). is_done c.args.w job (get_or c.args.finishes.now c.loop-k.k 0)) job in
    sym (every_fails _ (done c.args.w c.args.file.now c.args.finishes.now) c.loop-k.k here (sym one ∙ c.if-not-is_done.true))

pub loop-k-preserved : goal.loop-k-preserved
loop-k-preserved c =
    let job = c.arrival_of-job.ensures ∙ arrival_read _ c.header_of-h.ensures _ in
    let one = c.is_done.ensures ∙ ap (λ (job : Arrival). is_done c.args.w job (get_or c.args.finishes.now c.loop-k.k 0)) job in
    every_next c.loop-k.k (done c.args.w c.args.file.now c.args.finishes.now) c.loop-k.invariant (sym one ∙ c.if-not-is_done.false)

pub returns : goal.returns
returns c =
    let all : c.loop-k.k ≡ (work c.args.file.now).arrivals
    = omega (arith, c.loop-k-test.false, arrivals_read _ c.header_of-h.ensures) in
    sym c.loop-k.invariant ∙ ap (λ (n : ℕ). every n (done c.args.w c.args.file.now c.args.finishes.now)) all
