-- What playing a list of moves makes of a dispatcher, whichever way it is passed.
use Rattle.std.specs.Prelude.{ℕ, zero, suc, List, [], ◌∷◌}
use Rattle.dispatcher.specs.Course as Course
use Rattle.dispatcher.specs.Course.{an_arrival, a_tick, moved}
use Rattle.dispatcher.specs.declared.Dispatcher.{Dispatcher}
use Rattle.test_live_moves.specs.declared.script.Move.{Move}
use Rattle.test_live_moves.specs.declared.script.Move.TheVariants.{Tick, Arrival}
use Rattle.test_live_moves.specs.declared.script.Often.{Often}

-- a move of a list as one of a course
abbrev as_move : Move → Course.Move
as_move Tick = a_tick
as_move (Arrival server cost) = an_arrival server cost

-- the dispatcher after a move
abbrev pub moved_by : Dispatcher → Move → Dispatcher
moved_by d m = moved d (as_move m)

-- after the same move so many times
unfoldable pub made : Dispatcher → Move → ℕ → Dispatcher
made d m zero = d
made d m (suc k) = moved_by (made d m k) m

-- and after all moves of a list
unfoldable pub played : Dispatcher → List Often → Dispatcher
played d [] = d
played d (often ∷ more) = played (made d often.of often.times) more
