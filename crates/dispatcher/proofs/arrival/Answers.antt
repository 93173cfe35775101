-- `dispatcher::arrival` meets its promise: its three ways are the three cases of the definition, and what the definition gives is
-- within the ranges.
use Prim.Native.Nat.{ℕ, ◌+◌, ◌-◌, ◌≤◌, ◌<◌}
use mathlib.Core.Bool.{Bool, false}
use mathlib.Core.Path.{◌≡◌, refl, sym, ◌∙◌}
use native.Mathlib.Omega.{arith}
use Rattle.arrival.specs.Arrival.{faulty_arrival}
use Rattle.clock.specs.declared.Length.{Length}
use Rattle.server.specs.declared.Server.{Server}
use Rattle.dispatcher.specs.declared.Dispatcher.{Dispatcher}
use Rattle.dispatcher.specs.Pick.{server_at}
use Rattle.dispatcher.specs.Within.{Within}
use Rattle.arrival.proofs.ArrivalLaws.{sound}
use Rattle.server.specs.Ranges.{Ranged}
use Rattle.sizes.specs.Sizes.{most_waiting}
use Rattle.steps.proofs.StepLaws.{arrival_ranged}
use Rattle.dispatcher.proofs.MoveLaws.{arrival_faulty, arrival_too_much, arrival_whole, arrival_within, and_within}
use Rattle.dispatcher.proofs.arrival.Goals as goal

-- past the first test the arrival has no fault, so that its server is one of the 64, and within its ranges
module _ (d : Dispatcher) (ok : Within d) (i : ℕ) (cost : Length) {test : Bool} (is : test ≡ faulty_arrival d.count i cost) (off : test ≡ false) where
  no_fault : faulty_arrival d.count i cost ≡ false
  no_fault = sym is ∙ off

  known : i < d.count
  known = (sound d.count i cost no_fault).known

  module _ (s : Server) (read : s ≡ server_at d i) where
    ranged : Ranged d.clock s
    ranged = rw read (ok.servers _ known)

    -- past the second the work fits
    fits : cost.ticks ≤ most_waiting - s.waiting.ticks → s.waiting.ticks + cost.ticks ≤ most_waiting
    fits room = omega (arith, room, ranged.waiting)

pub returns-then-is_faulty : goal.returns-then-is_faulty
returns-then-is_faulty c =
    let both =
    and_within (arrival_within c.requires _ _)
    (sym (arrival_faulty _ _ _ (sym c.is_faulty.ensures ∙ c.if-is_faulty.true))) in
    record { result_value = both.0; within = both.1 }

pub returns-then-s-cost : goal.returns-then-s-cost
returns-then-s-cost c =
    let a = c.args in
    let fault = no_fault a.d c.requires a.server a.cost c.is_faulty.ensures c.if-is_faulty.false in
    let here = ranged a.d c.requires a.server a.cost c.is_faulty.ensures c.if-is_faulty.false _ refl in
    let both =
    and_within (arrival_within c.requires _ _)
    (sym
    (arrival_too_much a.d a.server a.cost fault
    (omega (arith, c.if-s-cost.true, here.waiting)))) in
    record { result_value = both.0; within = both.1 }

pub returns : goal.returns
returns c =
    let a = c.args in
    let fault = no_fault a.d c.requires a.server a.cost c.is_faulty.ensures c.if-is_faulty.false in
    let here = ranged a.d c.requires a.server a.cost c.is_faulty.ensures c.if-is_faulty.false _ refl in
    let room = fits a.d c.requires a.server a.cost c.is_faulty.ensures c.if-is_faulty.false _ refl c.if-s-cost.false in
    let both =
    and_within (arrival_within c.requires _ _)
    (rw (c.take.ensures ∙ arrival_ranged here c.requires.clock a.cost room)
    (sym (arrival_whole a.d a.server a.cost fault room))) in
    record { result_value = both.0; within = both.1 }
