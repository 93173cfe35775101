-- The run of a work (document 01, "One moment of the clock"): at each moment the arrivals of that moment are taken in list order, and
-- then the tick is given. Both are the live dispatcher's own moves.
use Rattle.std.specs.Prelude.{ℕ, zero, suc, eqb, ltb, Bool, cond}
use Rattle.counting.specs.Count.{count}
use Rattle.dispatcher.specs.Moves.{arrival, tick}
use Rattle.dispatcher.specs.declared.Turn.{Turn}
use Rattle.dispatcher.specs.declared.Turn.TheVariants.{Idle, Ran}
use Rattle.dispatcher.specs.Pick.{server_at}
use Rattle.dispatcher.specs.Start.{at_start}
use Rattle.dispatcher.specs.declared.Dispatcher.{Dispatcher}
use Rattle.history.specs.Choice.{Choice, nobody, given, History}
use Rattle.refusal.specs.Refusals.{Said, refused, gave}
use Rattle.workfile.specs.Work.{Work}

-- step 1: "The arrivals of t are taken in list order", t being the moment at which the dispatcher stands. These are the ones of t among
-- the first k arrivals. (No arrival of an accepted file is refused here, `every_arrival_taken` of books: none is faulty, and all its costs
-- together, at most 4,096 × 604,800 = 2,477,260,800, are less than may wait at one server.)
unfoldable pub taken : Work → ℕ → Dispatcher → Dispatcher
taken w zero d = d
taken w (suc k) d =
    cond (eqb (w.arrival k).moment.tick d.clock.tick)
    (arrival (taken w k d) (w.arrival k).server (w.arrival k).cost).dispatcher
    (taken w k d)

-- all of them
abbrev pub all_taken : Work → Dispatcher → Dispatcher
all_taken w d = taken w w.arrivals d

-- the dispatcher at moment t, before its arrivals are taken; at t + 1 it is the one after the tick, steps 2 to 4, of `ready` at t
unfoldable pub at_moment : Work → ℕ → Dispatcher
at_moment w zero = at_start w.frame w.table
at_moment w (suc t) = (tick (all_taken w (at_moment w t))).dispatcher

-- the dispatcher at moment t once its arrivals are in
unfoldable pub ready : Work → ℕ → Dispatcher
ready w t = all_taken w (at_moment w t)

-- what its tick answers; before N, which is no later than the clock's end, none is refused (`every_tick_given` of books)
unfoldable pub turn : Work → ℕ → Said Turn
turn w t = (tick (ready w t)).answer

-- what a tick that answers so is given to; the deadline is "the one in force before step 3"
abbrev pub choice_of : Said Turn → Choice
choice_of (refused number place) = nobody
choice_of (gave Idle) = nobody
choice_of (gave (Ran i deadline postponed)) = given i deadline

-- what the tick of each moment is given to
unfoldable pub history : Work → History
history w t = choice_of (turn w t)

-- "d grows by T .. That is one postponement": whether the tick of moment u leaves server i a later deadline
abbrev pub postpones : Work → ℕ → ℕ → Bool
postpones w i u = ltb (server_at (ready w u) i).deadline.tick (server_at (at_moment w (suc u)) i).deadline.tick

-- the postponements of server i before moment t
unfoldable pub postponed_by : Work → ℕ → ℕ → ℕ
postponed_by w i t = count t (postpones w i)

-- the work of server i that waits at moment t, "looked at before the arrivals" of t
unfoldable pub waiting_at : Work → ℕ → ℕ → ℕ
waiting_at w i t = (server_at (at_moment w t) i).waiting.ticks
