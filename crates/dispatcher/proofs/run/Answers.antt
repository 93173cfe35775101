-- `dispatcher::run` meets its promise: it goes through the steps of the definition, and the last tick of a budget is the one that is
-- left alone.
use Prim.Native.Nat.{ℕ, ◌-◌, ◌≤◌}
use borrow.Author.Tests.{eqb-false, ne_eqb}
use lib.Dec.{eqb}
use mathlib.Core.Path.{◌≡◌, sym, ◌∙◌}
use native.Mathlib.Decide.{ℕ_discrete}
use native.Mathlib.Omega.{arith}
use Rattle.steps.proofs.StepLaws.{tick_ranged}
use Rattle.dispatcher.specs.Moves.{ran}
use Rattle.dispatcher.proofs.PickLaws.{earliest_busy, earliest_charged}
use Rattle.dispatcher.proofs.run.Goals as goal

-- one tick is left where one less is none
last_left : (n : ℕ) → 1 ≤ n → eqb n 1 ≡ eqb (n - 1) 0
last_left n h = go (ℕ_discrete n 1)
  where
    go : Dec (n ≡ 1) → eqb n 1 ≡ eqb (n - 1) 0
    go (yes e) = rw e
    go (no e) = ne_eqb _ _ e ∙ sym (ne_eqb (n - 1) 0 (λ z. e (omega arith)))

-- the server works, has budget left, and is within its ranges
pub returns : goal.returns
unfolding ran
returns c =
    let pre = c.requires.within in
    c.pass.ensures
    ∙ rw (
      c.serve.ensures,
      tick_ranged (pre.0.servers _ pre.1.among) pre.0.clock (eqb-false _ _ (earliest_busy pre.1)) (earliest_charged pre.0 pre.1),
      last_left _ (earliest_charged pre.0 pre.1),
    )
