-- A history: what the tick of each moment is given to. The trace of document 01 is told from it alone.
use Rattle.std.specs.Prelude.{ℕ, eqb, Bool, true, false, not, ◌&&◌}
use Rattle.clock.specs.declared.Moment.{Moment}
use Rattle.counting.specs.Count.{count}

-- a tick is idle, or is given to a server under a deadline
pub data Choice : Type 0 where
  nobody : Choice
  given : (server : ℕ) (deadline : Moment) → Choice

abbrev pub History : Type 0
History = ℕ → Choice

-- the same server under the same deadline, or idle both
unfoldable pub same : Choice → Choice → Bool
same nobody nobody = true
same nobody (given j e) = false
same (given i d) nobody = false
same (given i d) (given j e) = eqb i j && eqb d.tick e.tick

-- whether a tick is given to server i
unfoldable pub is_for : ℕ → Choice → Bool
is_for i nobody = false
is_for i (given j d) = eqb i j

-- whether it "goes to another server" than i (document 02, W-201): an idle tick goes to none
unfoldable pub is_for_another : ℕ → Choice → Bool
is_for_another i nobody = false
is_for_another i (given j d) = not (eqb i j)

-- "the ticks served to that server" before moment t
unfoldable pub ticks_served : History → ℕ → ℕ → ℕ
ticks_served h i t = count t (λ u. is_for i (h u))
