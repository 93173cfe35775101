-- "The live loop keeps one dispatcher and lends it to each move, which alters it there; the same moves exist on a dispatcher passed and
-- handed back." (document 01) Both forms of a move promise the same of its answer and of the dispatcher after it, the one that is handed
-- back or the one that is left.
use Rattle.std.specs.Prelude.{ℕ, List, [], ◌∷◌, Result, ◌≡◌}
use Rattle.clock.specs.declared.Length.{Length}
use Rattle.dispatcher.specs.Course.{Move, an_arrival, a_tick}
use Rattle.dispatcher.specs.Moves.{leaving, arrival, tick}
use Rattle.dispatcher.specs.Within.{Within}
use Rattle.dispatcher.specs.declared.Dispatcher.{Dispatcher}
use Rattle.dispatcher.specs.declared.Turn.{Turn}
use Rattle.refusal.specs.Refusals.{on_paper}
use Rattle.refusal.specs.declared.Refusal.{Refusal}

-- what an arrival at d may answer, and the dispatcher e after it, in either form
abbrev pub ArrivalGives : Dispatcher → ℕ → Length → Result (Unit {0}) Refusal → Dispatcher → Type 0
ArrivalGives d server cost answer e = (leaving (on_paper answer) e ≡ arrival d server cost) × Within e

-- a tick, likewise
abbrev pub TickGives : Dispatcher → Result Turn Refusal → Dispatcher → Type 0
TickGives d answer e = (leaving (on_paper answer) e ≡ tick d) × Within e

-- A course of moves.

abbrev pub AnswerTo : Move → Type 0
AnswerTo (an_arrival server cost) = Result (Unit {0}) Refusal
AnswerTo a_tick = Result Turn Refusal

-- an answer to each
abbrev pub Answers : List Move → Type 0
Answers [] = Unit {0}
Answers (m ∷ moves) = AnswerTo m × Answers moves

-- one move by its promise, whose premise is `Within`
abbrev pub MoveGives : Dispatcher → (m : Move) → AnswerTo m → Dispatcher → Type 0
MoveGives d (an_arrival server cost) answer e = Within d → ArrivalGives d server cost answer e
MoveGives d a_tick answer e = Within d → TickGives d answer e

-- the answers to a course of moves, each made in either form, and the dispatcher in the end
unfoldable pub Played : Dispatcher → (moves : List Move) → Answers moves → Dispatcher → Type 0
Played d [] answers end = end ≡ d
Played d (m ∷ moves) answers end = (e : Dispatcher) × MoveGives d m answers.0 e × Played e moves answers.1 end
