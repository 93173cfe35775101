-- A refusal "changes no dispatcher" (document 01, "Refusal numbers"): a refused move leaves the one that it was lent as it was.
use Prim.Native.Nat.{ℕ}
use mathlib.Core.Path.{◌≡◌, sym, ◌∙◌, ap}
use Rattle.clock.specs.declared.Length.{Length}
use Rattle.dispatcher.proofs.RefusedLaws.{arrival_refused, tick_refused}
use Rattle.dispatcher.specs.Moves.{Answered, leaving, arrival, tick, LeavesRefused}
use Rattle.dispatcher.specs.declared.Dispatcher.{Dispatcher}
use Rattle.refusal.specs.Refusals.{refused}
use Rattle.refusal.specs.declared.Refusal.{Refusal}
use Rattle.std.specs.Prelude.{Err}
use Rattle.live_loop.specs.TwoForms.{ArrivalGives, TickGives}

-- of a move that leaves d where it is refused: what a refusal by it has left is d
left_refused : {A : Type 0} (d left : Dispatcher) (m : Answered A) (number place : ℕ) → LeavesRefused d m
    → leaving (refused number place) left ≡ m → left ≡ d
left_refused {A} d left m number place leaves e =
    ap (λ (x : Answered A). x.dispatcher) e ∙ leaves number place (sym (ap (λ (x : Answered A). x.answer) e))

module _ (d left : Dispatcher) (why : Refusal) where
  pub arrival_leaves_refused : (server : ℕ) (cost : Length) → ArrivalGives d server cost (Err why) left → left ≡ d
  arrival_leaves_refused server cost p = left_refused d left (arrival d server cost) _ _ (arrival_refused d server cost) p.0

  pub tick_leaves_refused : TickGives d (Err why) left → left ≡ d
  tick_leaves_refused p = left_refused d left (tick d) _ _ (tick_refused d) p.0
