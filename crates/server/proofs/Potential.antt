-- How much a server can still get under deadlines no later than a moment b. No promise cites this: it is what the proof of demand 3 keeps
-- account of. Every number is times the frame H, so that nothing is divided.
use Prim.Native.Nat.{ℕ, ◌+◌, ◌*◌, ◌≤◌, ◌<◌}
use lib.Dec.{leb}
use mathlib.Core.Bool.{true, cond}
use mathlib.Core.Logic.{◌⊎◌}
use mathlib.Core.Path.{◌≡◌}
use Rattle.booking.specs.Share.{share}
use Rattle.clock.specs.Clock.{ticks, until}
use Rattle.clock.specs.declared.Length.{Length}
use Rattle.clock.specs.declared.Moment.{Moment}
use Rattle.server.specs.declared.Server.{Server}
use Rattle.server.specs.Moves.{arrived}
use Rattle.server.specs.Server.{idle}
use Rattle.server.proofs.MoveLaws.{booking_of}

-- A server rests that is idle, or that is held back with its budget at 0 until its deadline, which is ahead of t.
abbrev pub Rests : Moment → Server → Type 0
Rests t s = (idle s ≡ true) ⊎ ((s.remaining.ticks ≡ 0) × (t.tick < s.deadline.tick))

-- every server has budget left or rests
abbrev pub HasBudgetOrRests : Moment → Server → Type 0
HasBudgetOrRests t s = (1 ≤ s.remaining.ticks) ⊎ Rests t s

module _ (H : Length) where
  -- the share of a server's booking
  abbrev pub own_share : Server → ℕ
  own_share s = (share H (booking_of s)).ticks

  -- what is left of its budget, and its share from d to b; nothing where d is later than b
  unfoldable pub owed : Moment → Server → ℕ
  owed b s =
      cond (leb s.deadline.tick b.tick) (H.ticks * s.remaining.ticks + (until s.deadline b).ticks * own_share s) 0

  -- what is owed to it once work is there: an idle server may be renewed at t
  unfoldable pub potential : Moment → Moment → Server → ℕ
  potential t b s = owed b (arrived s t (ticks 0))
