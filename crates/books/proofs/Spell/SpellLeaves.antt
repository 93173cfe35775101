-- What a spell of server i leaves that began at t: it went as planned, with the tree, the segments and the counts kept.
use Prim.Native.Nat.{ℕ, ◌+◌}
use lib.ListN.{get_or, set}
use mathlib.Core.Path.{◌≡◌}
use Rattle.clock.specs.declared.Moment.{Moment}
use Rattle.server.specs.declared.Server.{Server}
use Rattle.books.specs.declared.Gone.{Gone}
use Rattle.books.specs.declared.PlannedSpell.{PlannedSpell}
use Rattle.books.specs.declared.Turns.{Turns}
use Rattle.books.proofs.Book.{SegmentBook, with_waits}
use Rattle.books.proofs.Budgets.Budgets.{turned_on}
use Rattle.books.proofs.Spell.Planned.{Planned}
use Rattle.books.proofs.Stretches.Interruptions.{interruptions_after}
use Rattle.books.proofs.Stretches.Turns.{turned}
use Rattle.books.proofs.Tree.Winners.{root_of, Set}

-- the segments after its ticks, and after the budgets behind them
abbrev pub after_ticks : SegmentBook → ℕ → ℕ → Moment → Server → SegmentBook
after_ticks b t i deadline after = with_waits (turned b t i deadline) after.waiting

abbrev pub after_spell : SegmentBook → ℕ → ℕ → Moment → PlannedSpell → SegmentBook
after_spell b t i deadline p = turned_on (after_ticks b t i deadline p.after) (t + p.ticks.ticks) i p.after p.budgets

pub record SpellLeaves (t i : ℕ) (s : Server) (most : ℕ) (b b' : Turns) (x x' : SegmentBook) (g : Gone) : Type 0 where
  pub spell : PlannedSpell
  pub planned : Planned b.tree i s most spell
  pub server_is : g.server ≡ spell.last
  pub gone_is : g.gone ≡ spell.gone
  pub root_is : g.root ≡ root_of b'.tree
  pub set_now : Set b.tree b'.tree i spell.key
  pub postponed_is : b'.postponed ≡ set b.postponed i (get_or b.postponed i 0 + spell.postponed)
  pub interrupted_is : b'.interrupted ≡ interruptions_after x.current i b.interrupted
  pub segments_is : x' ≡ after_spell x t i s.deadline spell
