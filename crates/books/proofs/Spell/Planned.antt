-- What a spell of server i is that goes for so many ticks at most, which are within its job and the time.
use Prim.Native.Nat.{ℕ, ◌+◌, ◌*◌, ◌≤◌, ◌<◌}
use lib.Dec.{eqb}
use lib.ListN.{get_or}
use mathlib.Core.Bool.{cond}
use mathlib.Core.Path.{◌≡◌}
use Rattle.clock.specs.Clock.{last_tick}
use Rattle.moments.proofs.OneGo.{served_for}
use Rattle.server.specs.declared.Server.{Server}
use Rattle.sizes.specs.Sizes.{clock_end, most_frame}
use Rattle.books.specs.declared.PlannedSpell.{PlannedSpell}
use Rattle.books.specs.declared.Turns.{Turns}
use Rattle.books.proofs.Book.{SegmentBook}
use Rattle.books.proofs.Budgets.Budgets.{Able, budgets_on, Further}
use Rattle.books.proofs.Stretches.Turns.{Bounded}
use Rattle.books.proofs.Tree.Keys.{key_of}
use Rattle.books.specs.declared.WinnerTree.{WinnerTree}
use Rattle.books.proofs.Tree.Winners.{Leaf}

-- what it may rely on when it is planned: the server has work, budget and time, and no number is too large
pub record MayPlan (tree : WinnerTree) (i : ℕ) (s : Server) (most : ℕ) : Type 0 where
  pub leaf : Leaf tree i
  pub able : Able s
  pub early : s.deadline.tick ≤ most_frame * clock_end
  pub some : 0 < most
  pub work : most ≤ s.waiting.ticks
  pub charged : 0 < s.remaining.ticks
  pub time : most ≤ clock_end

-- of its ticks: they are within its budget and its work, and 64 bits hold its deadline where it is postponed
pub record MayServe (s : Server) (k : ℕ) : Type 0 where
  pub budget : k ≤ s.remaining.ticks
  pub work : k ≤ s.waiting.ticks
  pub deadline : s.deadline.tick + s.period.ticks ≤ last_tick

-- and when it goes, from t on
pub record MayGo (t i : ℕ) (s : Server) (most : ℕ) (b : Turns) (x : SegmentBook) : Type 0 where
  pub plans : MayPlan b.tree i s most
  pub in_time : t + most ≤ clock_end
  pub bounded : Bounded clock_end t x
  pub few : get_or b.postponed i 0 ≤ clock_end
  pub few_interrupted : get_or b.interrupted x.current.server 0 ≤ clock_end

pub record Planned (tree : WinnerTree) (i : ℕ) (s : Server) (most : ℕ) (p : PlannedSpell) : Type 0 where
  -- at least one tick, within its budget and as many as it goes for at most
  pub some : 0 < p.ticks.ticks
  pub inside : p.ticks.ticks ≤ most
  pub budget : p.ticks.ticks ≤ s.remaining.ticks
  pub after_is : p.after ≡ served_for s p.ticks.ticks
  -- then whole budgets, in what is left of these
  pub spare : ℕ
  pub left : p.ticks.ticks + spare ≤ most
  pub further : Further tree i p.after spare p.budgets
  pub last_is : p.last ≡ budgets_on p.after p.budgets
  pub key_is : p.key ≡ key_of p.last i
  pub gone_is : p.gone.ticks ≡ p.ticks.ticks + p.budgets * s.budget.ticks
  pub gone_inside : p.gone.ticks ≤ most
  pub postponed_is : p.postponed ≡ cond (eqb p.ticks.ticks s.remaining.ticks) 1 0 + p.budgets
  -- and no number is too large
  pub able : Able p.after
  pub works : p.budgets * p.after.budget.ticks ≤ p.after.waiting.ticks
  pub gone_after : p.ticks.ticks + p.budgets * p.after.budget.ticks ≡ p.gone.ticks
