-- The promises of this crate and the agreement of the two forms once more, as laws of the clauses in every model of the logic.
use Prim.Native.Nat.{ℕ}
use seplogic.Ra.Ura.{Ura}
use mathlib.Core.Path.{◌≡◌}
use base.Logic.{SProp, ent}
use contract.Lifetimes.{Lfts}
use contract.Monad.{Fun, fact, fact_i, fact_use}
use denote.MutBor.{MutBor}
use denote.Triple.Clauses.{AtExit}
use types.Logic.{Logic}
use prog.Memory.{Memory}
use prog.Routine.{Routine}
use Rattle.clock.specs.declared.Length.{Length}
use Rattle.dispatcher.specs.Within.{Within}
use Rattle.dispatcher.specs.declared.Reply.{Reply}
use Rattle.dispatcher.specs.declared.Dispatcher.{Dispatcher}
use Rattle.dispatcher.specs.declared.Turn.{Turn}
use Rattle.dispatcher.specs.contracts.arrival as by-value-arrival
use Rattle.dispatcher.specs.contracts.tick as by-value-tick
use Rattle.dispatcher.proofs.arrival.Reads as by-value-arrival-read
use Rattle.dispatcher.proofs.tick.Reads as by-value-tick-read
use Rattle.refusal.specs.declared.Refusal.{Refusal}
use Rattle.std.specs.Prelude.{Result}
use Rattle.walks.specs.AsksNothing.{AsksOnlyWalked}
use Rattle.walks.specs.OneOutcome.{Gives, OneOutcomeLentWalked}
use Rattle.walks.proofs.Steps.{both_said}
use Rattle.live_loop.specs.TwoForms.{ArrivalGives, TickGives}
use Rattle.live_loop.proofs.TwoFormsLaws.{arrival_agrees, tick_agrees}
use Rattle.live_loop.specs.contracts.arrival as arrival
use Rattle.live_loop.specs.contracts.tick as tick

-- what each contract gives, of the dispatcher that is lent, the answer and the dispatcher that is left
pub arrival_gives : Gives arrival.ended (λ M 𝓤. arrival.clauses)
    (λ κs a r e. ArrivalGives a.0.now a.1.0 a.1.1.0 r e.0.now)
arrival_gives M 𝓤 𝓛 mem run κs a g r e = both_said 𝓤 _ _

pub tick_gives : Gives tick.ended (λ M 𝓤. tick.clauses) (λ κs a r e. TickGives a.0.now r e.0.now)
tick_gives M 𝓤 𝓛 mem run κs a g r e = both_said 𝓤 _ _

-- and that it allows one outcome: one outcome agrees with another as one form of the move does with the other
pub arrival_one : OneOutcomeLentWalked arrival.ended (λ M 𝓤. arrival.clauses) (λ κs e. e.0.now)
arrival_one = (
  (λ κs a r e. ArrivalGives a.0.now a.1.0 a.1.1.0 r e.0.now),
  (
    arrival_gives,
    (λ κs a x y at_x at_y p q.
        arrival_agrees a.0.now a.1.0 a.1.1.0 x y at_x.0.now at_y.0.now p q),
  ),
)

pub arrival_asks : AsksOnlyWalked arrival.ended (λ κs a. Within a.0.now) (λ M 𝓤. arrival.clauses)
arrival_asks M 𝓤 𝓛 mem run κs a within = (tt, (λ P. fact_i 𝓤 _ P within))

pub tick_one : OneOutcomeLentWalked tick.ended (λ M 𝓤. tick.clauses) (λ κs e. e.0.now)
tick_one = (
  (λ κs a r e. TickGives a.0.now r e.0.now),
  (
    tick_gives,
    (λ κs a x y at_x at_y p q.
        tick_agrees a.0.now x y at_x.0.now at_y.0.now p q),
  ),
)

pub tick_asks : AsksOnlyWalked tick.ended (λ κs a. Within a.0.now) (λ M 𝓤. tick.clauses)
tick_asks M 𝓤 𝓛 mem run κs a within = (tt, (λ P. fact_i 𝓤 _ P within))

-- what a move by value promises, and what the clauses of the lent one ensure: equal answers and equal dispatchers
module _ {M : Type 1} {𝓤 : Ura M} (𝓛 : Logic 𝓤) (mem : Memory → SProp 𝓤) (run : Routine → Fun 𝓤)
    (κs : Lfts 1) (d : MutBor Dispatcher) where
  pub arrival_forms : (server : ℕ) (cost : Length) (r : Reply (Unit {0})) (u : AtExit by-value-arrival.ended tt)
      → by-value-arrival-read.Post tt (d.now, (server, (cost, tt))) r u → (answer : Result (Unit {0}) Refusal) (e : AtExit arrival.ended κs)
      → ent 𝓤 ((arrival.clauses 𝓛 mem run κs (d, (server, (cost, tt)))).ensures tt answer e)
      (fact 𝓤 ((r.answer ≡ answer) × (r.dispatcher ≡ e.0.now)))
  arrival_forms server cost r u h answer e =
      fact_use 𝓤 _ (arrival_gives M 𝓤 𝓛 mem run κs (d, (server, (cost, tt))) tt answer e) (λ l.
      fact_i 𝓤 _ _ (arrival_agrees d.now server cost r.answer answer r.dispatcher e.0.now h l))

  pub tick_forms : (r : Reply Turn) (u : AtExit by-value-tick.ended tt)
      → by-value-tick-read.Post tt (d.now, tt) r u → (answer : Result Turn Refusal) (e : AtExit tick.ended κs)
      → ent 𝓤 ((tick.clauses 𝓛 mem run κs (d, tt)).ensures tt answer e)
      (fact 𝓤 ((r.answer ≡ answer) × (r.dispatcher ≡ e.0.now)))
  tick_forms r u h answer e =
      fact_use 𝓤 _ (tick_gives M 𝓤 𝓛 mem run κs (d, tt) tt answer e) (λ l.
      fact_i 𝓤 _ _ (tick_agrees d.now r.answer answer r.dispatcher e.0.now h l))
