-- `run::taking::take` meets its promise: within its ranges the server takes the work as document 01 says, and its key fits 64 bits.
use Prim.Native.Nat.{ℕ}
use mathlib.Core.Path.{◌≡◌, ◌∙◌}
use native.Mathlib.Omega.{arith}
use Rattle.books.proofs.Travel.ArrivalTaken.{MayTake}
use Rattle.books.specs.declared.WinnerTree.{WinnerTree}
use Rattle.clock.specs.declared.Length.{Length}
use Rattle.clock.specs.declared.Moment.{Moment}
use Rattle.server.specs.Moves.{arrived}
use Rattle.server.specs.declared.Server.{Server}
use Rattle.server.proofs.RangeLaws.{arrived_ranged, deadline_below}
use Rattle.steps.proofs.StepLaws.{arrival_ranged}
use Rattle.steps.specs.Steps.{after_arrival}
use Rattle.run.proofs.taking.take.Goals as goal

-- the server with the work
taken : {tree : WinnerTree} {i : ℕ} {s server : Server} {t : Moment} {cost : Length} → MayTake tree i s t cost → server ≡ after_arrival s t cost
    → server ≡ arrived s t cost
taken {cost = cost} may is = is ∙ arrival_ranged may.ranged may.time cost may.room

pub key_of-requires : goal.key_of-requires
key_of-requires c =
    let a = c.args in
    let pre = c.requires in
    rw (taken pre c.take-taken.ensures)
    (omega (
      arith,
      deadline_below (arrived_ranged a.s a.t a.cost pre.ranged pre.room) pre.time,
      pre.leaf.place,
      pre.leaf.winners.few,
    ))

pub returns : goal.returns
returns c = record { value = taken c.requires c.take-taken.ensures; set = rw c.key_of.ensures at c.set_key.ensures }
