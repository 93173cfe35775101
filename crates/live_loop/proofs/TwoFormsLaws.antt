-- The two forms of the moves agree, in one move and in any course of moves, since their promises say the same.
use Prim.Native.Nat.{ℕ}
use mathlib.Core.List.{List, [], ◌∷◌}
use mathlib.Core.Path.{◌≡◌, refl, sym, ◌∙◌, ap, ap₂, subst}
use Rattle.clock.specs.declared.Length.{Length}
use Rattle.dispatcher.proofs.MoveOnPaperLaws.{moved_told}
use Rattle.dispatcher.specs.Course.{Move, an_arrival, a_tick, moved, after}
use Rattle.dispatcher.specs.Moves.{Answered, leaving}
use Rattle.dispatcher.specs.Within.{Within}
use Rattle.dispatcher.specs.declared.Dispatcher.{Dispatcher}
use Rattle.dispatcher.specs.declared.Turn.{Turn}
use Rattle.promise.proofs.OneOutcomeLaws.{both_are}
use Rattle.refusal.specs.Refusals.{on_paper}
use Rattle.refusal.specs.declared.Refusal.{Refusal}
use Rattle.std.specs.Prelude.{Result}
use Rattle.live_loop.specs.TwoForms.{ArrivalGives, TickGives, AnswerTo, Answers, MoveGives, Played}

-- One move.

-- Two moves that say and leave the same have equal answers and leave equal dispatchers.
left_told : {A : Type 0} (v w : Result A Refusal) (d e : Dispatcher) → leaving (on_paper v) d ≡ leaving (on_paper w) e → (v ≡ w) × (d ≡ e)
left_told {A} v w d e p = (moved_told (λ x y. x) v w d e p, moved_told (λ x y. y) v w d e p)

pub arrival_agrees : (d : Dispatcher) (server : ℕ) (cost : Length) (v w : Result (Unit {0}) Refusal) (e f : Dispatcher)
    → ArrivalGives d server cost v e → ArrivalGives d server cost w f → (v ≡ w) × (e ≡ f)
arrival_agrees d server cost v w e f p q = left_told v w e f (both_are p.0 q.0)

pub tick_agrees : (d : Dispatcher) (v w : Result Turn Refusal) (e f : Dispatcher) → TickGives d v e → TickGives d w f → (v ≡ w) × (e ≡ f)
tick_agrees d v w e f p q = left_told v w e f (both_are p.0 q.0)

-- A course of moves.

-- one move agrees, and leaves a dispatcher within its ranges for the next
move_agrees : (d : Dispatcher) (m : Move) (a b : AnswerTo m) (e f : Dispatcher) → Within d
    → MoveGives d m a e → MoveGives d m b f → (a ≡ b) × (e ≡ f) × Within e
move_agrees d (an_arrival server cost) a b e f ok p q =
    let same = arrival_agrees d server cost a b e f (p ok) (q ok) in
    (same.0, same.1, (p ok).1)
move_agrees d a_tick a b e f ok p q =
    let same = tick_agrees d a b e f (p ok) (q ok) in
    (same.0, same.1, (p ok).1)

-- from one dispatcher the same moves, each in the one form or the other, give the same answers and the same dispatcher in the end
pub two_forms : (moves : List Move) (d : Dispatcher) (a b : Answers moves) (end stop : Dispatcher) → Within d
    → Played d moves a end → Played d moves b stop → (a ≡ b) × (end ≡ stop)
unfolding Played
two_forms [] d a b end stop ok p q = (refl, both_are p q)
two_forms (m ∷ moves) d a b end stop ok p q =
    let same = move_agrees d m a.0 b.0 p.0 q.0 ok p.1 q.1 in
    let from-there = subst (λ (e : Dispatcher). Played e moves b.1 stop) (sym same.1) q.2 in
    let rest = two_forms moves p.0 a.1 b.1 end stop same.2 p.2 from-there in
    (ap₂ (λ (x : AnswerTo m) (more : Answers moves). (x, more)) same.0 rest.0, rest.1)

-- A move leads where the definitions lead;
move_leads : (d : Dispatcher) (m : Move) (a : AnswerTo m) (e : Dispatcher) → Within d → MoveGives d m a e → (e ≡ moved d m) × Within e
move_leads d (an_arrival server cost) a e ok p = (ap (λ (x : Answered (Unit {0})). x.dispatcher) (p ok).0, (p ok).1)
move_leads d a_tick a e ok p = (ap (λ (x : Answered Turn). x.dispatcher) (p ok).0, (p ok).1)

-- and so does a course of moves: what is proved of a course, as demand 3 is, holds of both forms
pub played_after : (moves : List Move) (d : Dispatcher) (a : Answers moves) (end : Dispatcher) → Within d
    → Played d moves a end → end ≡ after d moves
unfolding Played after
played_after [] d a end ok p = p
played_after (m ∷ moves) d a end ok p =
    let there = move_leads d m a.0 p.0 ok p.1 in
    played_after moves p.0 a.1 end there.1 p.2 ∙ ap (λ (e : Dispatcher). after e moves) there.0
