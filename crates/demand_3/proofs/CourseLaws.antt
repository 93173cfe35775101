-- One course of moves after another, and which ticks count.
use Prim.Native.Nat.{ℕ, ◌+◌}
use borrow.Author.Tests.{eq-eqb}
use lib.Dec.{leb}
use mathlib.Core.Bool.{false, cond}
use mathlib.Core.List.{List, [], ◌∷◌, ◌++◌}
use mathlib.Core.Path.{◌≡◌, refl}
use native.Mathlib.Omega.{arith}
use Rattle.clock.specs.declared.Moment.{Moment}
use Rattle.dispatcher.specs.Course.{Move, moved, after}
use Rattle.dispatcher.specs.declared.Dispatcher.{Dispatcher}
use Rattle.history.proofs.ChoiceLaws.{for_nobody}
use Rattle.history.specs.Choice.{Choice, nobody, given, is_for}
use Rattle.demand_3.specs.Got.{given_by, is_under, got}

module _ (i : ℕ) (b : Moment) where
  -- no tick that is another's counts
  pub under_away : (c : Choice) → is_for i c ≡ false → is_under i b c ≡ false
  unfolding is_under is_for
  under_away nobody e = refl
  under_away (given j deadline) e = rw e

  pub under_nobody : is_under i b nobody ≡ false
  under_nobody = under_away nobody (for_nobody i)

  -- its own does by the deadline
  pub under_own : (deadline : Moment) → is_under i b (given i deadline) ≡ leb deadline.tick b.tick
  unfolding is_under
  under_own deadline = rw (eq-eqb i i refl)

-- a course after another leads on from where the first has led
pub after_both : (d : Dispatcher) (first then : List Move) → after d (first ++ then) ≡ after (after d first) then
unfolding after
after_both d [] then = refl
after_both d (m ∷ first) then = after_both (moved d m) first then

-- and the ticks of both add up
pub got_both : (i : ℕ) (b : Moment) (d : Dispatcher) (first then : List Move)
    → got i b d (first ++ then) ≡ got i b d first + got i b (after d first) then
unfolding got after
got_both i b d [] then = omega arith
got_both i b d (m ∷ first) then = omega (arith, got_both i b (moved d m) first then)

-- so for one move more
pub after_last : (d : Dispatcher) (first : List Move) (m : Move) → after d (first ++ m ∷ []) ≡ moved (after d first) m
unfolding after
after_last d first m = after_both d first (m ∷ [])

pub got_last : (i : ℕ) (b : Moment) (d : Dispatcher) (first : List Move) (m : Move)
    → got i b d (first ++ m ∷ []) ≡ got i b d first + cond (is_under i b (given_by (after d first) m)) 1 0
unfolding got
got_last i b d first m = omega (arith, got_both i b d first (m ∷ []))
