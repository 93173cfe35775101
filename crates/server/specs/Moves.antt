-- What one moment t of the clock does to one server (document 01, "One moment of the clock", steps 1 and 3).
use Rattle.std.specs.Prelude.{◌+◌, ◌-◌, ◌*◌, eqb, leb, Bool, cond, ◌||◌}
use Rattle.clock.specs.Clock.{later, until, ticks}
use Rattle.clock.specs.declared.Length.{Length}
use Rattle.clock.specs.declared.Moment.{Moment}
use Rattle.server.specs.declared.Server.{Server}
use Rattle.server.specs.declared.Waking.{Waking}
use Rattle.server.specs.declared.Waking.TheVariants.{Kept, Renewed, Busy}
use Rattle.server.specs.Server.{holding, idle}

-- Step 1. "If the server is idle it wakes: if c × T is at least (d − t) × Q, or d is at or before t, then d becomes t + T and c
-- becomes Q; otherwise c and d are kept. Then w grows by the cost. A busy server only gets the work."

-- "c × T is at least (d − t) × Q, or d is at or before t"
unfoldable pub renews : Server → Moment → Bool
renews s t =
    leb ((until t s.deadline).ticks * s.budget.ticks) (s.remaining.ticks * s.period.ticks)
    || leb s.deadline.tick t.tick

-- "d becomes t + T and c becomes Q"
abbrev pub renewed : Server → Moment → Server
renewed s t = holding s s.budget (later t s.period) s.waiting

-- "otherwise c and d are kept"
abbrev pub woken : Server → Moment → Server
woken s t = cond (renews s t) (renewed s t) s

-- "Then w grows by the cost."
abbrev pub with_work : Server → Length → Server
with_work s cost = holding s s.remaining s.deadline (ticks (s.waiting.ticks + cost.ticks))

-- the whole step: "If the server is idle it wakes"; "A busy server only gets the work."
unfoldable pub arrived : Server → Moment → Length → Server
arrived s t cost = with_work (cond (idle s) (woken s t) s) cost

-- What that answers (document 02, W-203): "Waking must answer kept or renewed", with "a third answer for a busy server".
pub data Woke : Type 0 where
  kept_deadline : Woke
  renewed_deadline : Woke
  was_busy : Woke

-- of the server as it is before the work comes; one that renews by "at least" is renewed, even where c and d come out as they were
unfoldable pub woke : Server → Moment → Woke
woke s t = cond (idle s) (cond (renews s t) renewed_deadline kept_deadline) was_busy

-- what each case of the answer says
abbrev pub woke_of : Waking → Woke
woke_of Kept = kept_deadline
woke_of Renewed = renewed_deadline
woke_of Busy = was_busy

-- Step 3. "The running server loses one from w and one from c. If c is now 0, c becomes Q and d grows by T, at once, even if w is
-- now 0. That is one postponement."

-- "loses one from w and one from c"
abbrev pub one_tick_less : Server → Server
one_tick_less s = holding s (ticks (s.remaining.ticks - 1)) s.deadline (ticks (s.waiting.ticks - 1))

-- "c becomes Q and d grows by T"
abbrev pub postponed : Server → Server
postponed s = holding s s.budget (later s.deadline s.period) s.waiting

-- "If c is now 0"
abbrev pub spent : Server → Bool
spent s = eqb s.remaining.ticks 0

-- whether this tick is the last of the budget, and so postpones the server
abbrev pub spends_last : Server → Bool
spends_last s = spent (one_tick_less s)

-- the whole step
unfoldable pub served : Server → Server
served s = cond (spends_last s) (postponed (one_tick_less s)) (one_tick_less s)
