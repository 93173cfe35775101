-- Playing on: one time more, and one line of a list more.
use Rattle.std.proofs.Common.{◌≡◌, ℕ, ◌+◌, List, [], ◌∷◌, refl, add-one}
use Rattle.dispatcher.specs.declared.Dispatcher.{Dispatcher}
use Rattle.test_live_moves.specs.declared.script.Move.{Move}
use Rattle.test_live_moves.specs.declared.script.Often.{Often}
use Rattle.test_live_moves.specs.Working.Played.{made, moved_by, played}

pub made_none : (d : Dispatcher) (m : Move) → made d m 0 ≡ d
unfolding made
made_none d m = refl

pub made_next : (d : Dispatcher) (m : Move) (k : ℕ) → moved_by (made d m k) m ≡ made d m (k + 1)
unfolding made
made_next d m k = rw (add-one k) refl

pub played_none : (d : Dispatcher) → played d [] ≡ d
unfolding played
played_none d = refl

pub played_next : (d : Dispatcher) (often : Often) (more : List Often) → played d (often ∷ more) ≡ played (made d often.of often.times) more
unfolding played
played_next d often more = refl
