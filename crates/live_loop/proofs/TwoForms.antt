-- The two forms agree as their contracts state them: the laws of `TwoFormsLaws`, from what the check reads of the contracts of the moves by
-- value and of the lent ones.
use Prim.Native.Nat.{ℕ}
use mathlib.Core.Path.{◌≡◌}
use contract.Lifetimes.{Lfts}
use denote.MutBor.{MutBor}
use denote.Triple.Clauses.{AtExit}
use Rattle.clock.specs.declared.Length.{Length}
use Rattle.dispatcher.specs.declared.Reply.{Reply}
use Rattle.dispatcher.specs.declared.Dispatcher.{Dispatcher}
use Rattle.dispatcher.specs.declared.Turn.{Turn}
use Rattle.dispatcher.specs.contracts.arrival as by-value-arrival
use Rattle.dispatcher.specs.contracts.tick as by-value-tick
use Rattle.dispatcher.proofs.arrival.Reads as by-value-arrival-read
use Rattle.dispatcher.proofs.tick.Reads as by-value-tick-read
use Rattle.refusal.specs.declared.Refusal.{Refusal}
use Rattle.std.specs.Prelude.{Result}
use Rattle.live_loop.proofs.TwoFormsLaws.{arrival_agrees, tick_agrees}
use Rattle.live_loop.specs.contracts.arrival as lent-arrival
use Rattle.live_loop.specs.contracts.tick as lent-tick
use Rattle.live_loop.proofs.arrival.Reads as lent-arrival-read
use Rattle.live_loop.proofs.tick.Reads as lent-tick-read

module _ (κs : Lfts 1) (d : MutBor Dispatcher) where
  pub arrival_forms : (server : ℕ) (cost : Length) (r : Reply (Unit {0})) (u : AtExit by-value-arrival.ended tt)
      → by-value-arrival-read.Post tt (d.now, (server, (cost, tt))) r u → (answer : Result (Unit {0}) Refusal) (e : AtExit lent-arrival.ended κs)
      → lent-arrival-read.Post κs (d, (server, (cost, tt))) answer e → (r.answer ≡ answer) × (r.dispatcher ≡ e.0.now)
  arrival_forms server cost r u h answer e l = arrival_agrees d.now server cost r.answer answer r.dispatcher e.0.now h l

  pub tick_forms : (r : Reply Turn) (u : AtExit by-value-tick.ended tt)
      → by-value-tick-read.Post tt (d.now, tt) r u → (answer : Result Turn Refusal) (e : AtExit lent-tick.ended κs)
      → lent-tick-read.Post κs (d, tt) answer e → (r.answer ≡ answer) × (r.dispatcher ≡ e.0.now)
  tick_forms r u h answer e l = tick_agrees d.now r.answer answer r.dispatcher e.0.now h l
