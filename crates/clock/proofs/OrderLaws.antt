-- How a proof reads the derived comparisons of two moments, or of two lengths: each answers what it answers of their ticks.
use Prim.Native.Nat.{ℕ, ◌≤◌, ◌<◌}
use borrow.Author.Tests.{leb-false, leb-true, ltb-false, ltb-true}
use lib.Dec.{leb, ltb}
use mathlib.Core.Bool.{Bool, true, false}
use mathlib.Core.Path.{◌≡◌, sym, ◌∙◌}
use Rattle.std.proofs.Common.{arith, min, max}
use Rattle.std.proofs.lemmas.Grind.{common_steps}
use Rattle.std.specs.Ordering.{is_ge, is_gt, is_le, is_lt, nat_cmp, ord_max, ord_min}
use Rattle.clock.specs.contracts.LengthOrd.TheImpl as length_order
use Rattle.clock.specs.contracts.MomentOrd.TheImpl as moment_order
use Rattle.clock.specs.Clock.{moment, ticks}
use Rattle.clock.specs.declared.Length.{Length}
use Rattle.clock.specs.declared.Moment.{Moment}

module _ (a b : ℕ) where
  -- `<`, `<=`, `>` and `>=` as the tests of the definitions
  pub less_is : is_lt (nat_cmp a b) ≡ ltb a b
  less_is = grind (arith, common_steps)

  pub at_most_is : is_le (nat_cmp a b) ≡ leb a b
  at_most_is = grind (arith, common_steps)

  pub more_is : is_gt (nat_cmp a b) ≡ ltb b a
  more_is = grind (arith, common_steps)

  pub at_least_is : is_ge (nat_cmp a b) ≡ leb b a
  at_least_is = grind (arith, common_steps)

-- and what is known where one of them has answered
module _ {a b : ℕ} {answer : Bool} where
  pub less : answer ≡ is_lt (nat_cmp a b) → answer ≡ true → a < b
  less is told = ltb-true a b (sym (is ∙ less_is a b) ∙ told)

  pub not_less : answer ≡ is_lt (nat_cmp a b) → answer ≡ false → b ≤ a
  not_less is told = ltb-false a b (sym (is ∙ less_is a b) ∙ told)

  pub at_most : answer ≡ is_le (nat_cmp a b) → answer ≡ true → a ≤ b
  at_most is told = leb-true a b (sym (is ∙ at_most_is a b) ∙ told)

  pub not_at_most : answer ≡ is_le (nat_cmp a b) → answer ≡ false → b < a
  not_at_most is told = leb-false a b (sym (is ∙ at_most_is a b) ∙ told)

-- the shorter and the longer of two lengths, and the earlier and the later of two moments
pub shorter_is : (a b : Length) → ord_min (length_order.cmp-value).it a b ≡ ticks (min a.ticks b.ticks)
shorter_is a b = grind (arith, common_steps)

pub longer_is : (a b : Length) → ord_max (length_order.cmp-value).it a b ≡ ticks (max a.ticks b.ticks)
longer_is a b = grind (arith, common_steps)

pub earlier_is : (a b : Moment) → ord_min (moment_order.cmp-value).it a b ≡ moment (min a.tick b.tick)
earlier_is a b = grind (arith, common_steps)

pub later_is : (a b : Moment) → ord_max (moment_order.cmp-value).it a b ≡ moment (max a.tick b.tick)
later_is a b = grind (arith, common_steps)
