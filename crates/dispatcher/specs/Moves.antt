-- The two live moves (document 01, "One moment of the clock" and refusals 6, 10 and 11): what each answers, and the dispatcher after it.
use Rattle.std.specs.Prelude.{ℕ, ◌+◌, eqb, ltb, set, Bool, cond, List, ◌≡◌}
use Rattle.arrival.specs.Arrival.{faulty_arrival}
use Rattle.clock.specs.Clock.{later, ticks}
use Rattle.clock.specs.declared.Length.{Length}
use Rattle.clock.specs.declared.Moment.{Moment}
use Rattle.refusal.specs.Refusals.{Said, refused, gave, accepted, on_paper}
use Rattle.server.specs.Moves.{arrived, spends_last, served}
use Rattle.server.specs.declared.Server.{Server}
use Rattle.sizes.specs.Sizes.{clock_end, most_waiting}
use Rattle.dispatcher.specs.declared.Dispatcher.{Dispatcher}
use Rattle.dispatcher.specs.declared.Reply.{Reply}
use Rattle.dispatcher.specs.declared.Turn.{Turn}
use Rattle.dispatcher.specs.declared.Turn.TheVariants.{Idle, Ran}
use Rattle.dispatcher.specs.Pick.{server_at, picked}

-- what is said, and the dispatcher with it: a move leaves one, and an opening hands one back
pub record Answered (A : Type 0) : Type 0 where
  pub answer : Said A
  pub dispatcher : Dispatcher

abbrev pub leaving : {A : Type 0} → Said A → Dispatcher → Answered A
leaving said d = record { answer = said; dispatcher = d }

-- what a reply says
abbrev pub reply_says : {A : Type 0} → Reply A → Answered A
reply_says r = leaving (on_paper r.answer) r.dispatcher

-- the dispatcher at moment t with these servers: no move alters H and n
abbrev pub standing : Dispatcher → Moment → List Server → Dispatcher
standing d t servers = record { frame = d.frame; count = d.count; clock = t; servers = servers }

-- the dispatcher with another server at place i
abbrev pub with_server : Dispatcher → ℕ → Server → Dispatcher
with_server d i s = standing d d.clock (set d.servers i s)

-- a refusal "changes no dispatcher"; its place is 0 in both moves
abbrev pub refusing : {A : Type 0} → Dispatcher → ℕ → Answered A
refusing d number = leaving (refused number 0) d

-- An arrival.

-- 11: "a live arrival would take its server's waiting work above 4,294,967,295"
abbrev pub too_much_work : Dispatcher → ℕ → Length → Bool
too_much_work d i cost = ltb most_waiting ((server_at d i).waiting.ticks + cost.ticks)

-- "A live arrival gives 6 (place 0) or 11, in that order." Otherwise it is accepted, and its server goes through step 1.
unfoldable pub arrival : Dispatcher → ℕ → Length → Answered (Unit {0})
arrival d i cost =
    cond (faulty_arrival d.count i cost) (refusing d 6)
    (cond (too_much_work d i cost) (refusing d 11)
    (leaving accepted (with_server d i (arrived (server_at d i) d.clock cost))))

-- A tick: "A tick answers idle, or the server, the deadline it ran under and whether it postponed."

-- Step 4: "The clock is t + 1."
abbrev pub one_later : Dispatcher → Dispatcher
one_later d = standing d (later d.clock (ticks 1)) d.servers

-- server i runs: step 3 at it, then step 4. The deadline is "the one in force before step 3".
unfoldable pub ran : Dispatcher → ℕ → Answered Turn
ran d i =
    leaving (gave (Ran i (server_at d i).deadline (spends_last (server_at d i))))
    (one_later (with_server d i (served (server_at d i))))

-- 10: "a live tick when the clock stands at 2,419,200". Otherwise the server that step 2 picks runs; "If there is none, the tick is
-- idle", and only step 4 is left.
unfoldable pub tick : Dispatcher → Answered Turn
tick d =
    cond (eqb d.clock.tick clock_end) (refusing d 10)
    (cond (ltb (picked d) d.count) (ran d (picked d))
    (leaving (gave Idle) (one_later d)))

-- a refused move leaves the dispatcher as it was
abbrev pub LeavesRefused : {A : Type 0} → Dispatcher → Answered A → Type 0
LeavesRefused d m = (number place : ℕ) → m.answer ≡ refused number place → m.dispatcher ≡ d
