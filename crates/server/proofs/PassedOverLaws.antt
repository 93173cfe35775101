-- Step 2 passes over the idle servers and no other.
use Prim.Native.Nat.{◌≤◌}
use mathlib.Core.Bool.{true, false}
use mathlib.Core.Path.{◌≡◌, refl, sym, ◌∙◌}
use Rattle.server.specs.declared.Server.{Server}
use Rattle.server.specs.Server.{idle, passed_over}

module _ (s : Server) where
  passed_over_is : passed_over s ≡ idle s
  passed_over_is = refl

  -- an idle server is passed over
  pub idle_passed_over : idle s ≡ true → passed_over s ≡ true
  idle_passed_over e = passed_over_is ∙ e

  -- one that is not has work
  pub not_passed_over_busy : passed_over s ≡ false → idle s ≡ false
  not_passed_over_busy e = sym passed_over_is ∙ e

  -- and one with work and with budget left is not
  pub busy_not_passed_over : idle s ≡ false → 1 ≤ s.remaining.ticks → passed_over s ≡ false
  busy_not_passed_over e left = passed_over_is ∙ e
