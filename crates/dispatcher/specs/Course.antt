-- A course of moves on a dispatcher, one after the other.
use Rattle.std.specs.Prelude.{ℕ, List, [], ◌∷◌}
use Rattle.clock.specs.declared.Length.{Length}
use Rattle.dispatcher.specs.declared.Dispatcher.{Dispatcher}
use Rattle.dispatcher.specs.Moves.{arrival, tick}

-- work that arrives for a server, or a tick
pub data Move : Type 0 where
  an_arrival : (server : ℕ) (cost : Length) → Move
  a_tick : Move

-- the dispatcher after a move; a refused one leaves it as it is
abbrev pub moved : Dispatcher → Move → Dispatcher
moved d (an_arrival i cost) = (arrival d i cost).dispatcher
moved d a_tick = (tick d).dispatcher

-- the dispatcher after a course of moves
unfoldable pub after : Dispatcher → List Move → Dispatcher
after d [] = d
after d (m ∷ more) = after (moved d m) more
