-- Which segments count as interrupted (document 02, W-201), case by case.
use Prim.Native.Nat.{ℕ, ◌≤◌, ◌<◌}
use borrow.Author.Tests.{eq-eqb, lt-ltb, le-ltb}
use lib.Dec.{eqb, ltb}
use mathlib.Core.Bool.{Bool, true, false, not, ◌&&◌}
use mathlib.Core.Path.{◌≡◌, refl, ◌∙◌, ap, ap₂}
use native.Mathlib.Decide.{dec_lt}
use native.Mathlib.Omega.{arith}
use Rattle.clock.specs.declared.Moment.{Moment}
use Rattle.counting.proofs.TestLaws.{and_true, and_false, not_both}
use Rattle.history.proofs.ChoiceLaws.{another_given, another_own, another_nobody}
use Rattle.history.specs.Choice.{nobody, given, is_for_another}
use Rattle.moments.specs.Moments.{history, waiting_at}
use Rattle.sizes.specs.Sizes.{most_servers}
use Rattle.workfile.specs.Work.{Work}
use Rattle.summary.specs.Summary.{interrupted_at}

-- A segment of server i that ends at t.
module _ (w : Work) (i t : ℕ) where
  abbrev before : Bool
  before = ltb t w.horizon.tick

  abbrev waits : Bool
  waits = ltb 0 (waiting_at w i t)

  -- before N, with another server next, what waits decides
  pub another_interrupts : {j : ℕ} {d : Moment} → history w t ≡ given j d → (i ≡ j → ⊥) → t < w.horizon.tick
      → interrupted_at w i t ≡ ltb 0 (waiting_at w i t)
  another_interrupts {j} {d} next other in_time =
      ap₂ (λ (b a : Bool). b && waits && a) (lt-ltb t w.horizon.tick in_time) (ap (is_for_another i) next ∙ another_given i j d other)
      ∙ and_true waits

  unless_another : is_for_another i (history w t) ≡ false → interrupted_at w i t ≡ false
  unless_another e = ap (λ (a : Bool). before && waits && a) e ∙ and_false (before && waits)

  -- "A postponement under which the same server simply carries on is no interruption"
  pub carries_on : {d : Moment} → history w t ≡ given i d → interrupted_at w i t ≡ false
  carries_on {d} next = unless_another (ap (is_for_another i) next ∙ another_own i d)

  -- nor is an idle tick
  pub idle_interrupts_none : history w t ≡ nobody → interrupted_at w i t ≡ false
  idle_interrupts_none next = unless_another (ap (is_for_another i) next ∙ another_nobody i)

  -- a server that has just become idle is not interrupted, whatever arrives at t
  pub done_before : waiting_at w i t ≡ 0 → interrupted_at w i t ≡ false
  done_before none =
      ap (λ (b : Bool). before && b && is_for_another i (history w t)) (le-ltb 0 (waiting_at w i t) (omega arith))
      ∙ ap (λ (b : Bool). b && is_for_another i (history w t)) (and_false before)

  -- and no segment that ends at N counts
  pub ends_at_horizon : w.horizon.tick ≤ t → interrupted_at w i t ≡ false
  ends_at_horizon end = ap (λ (b : Bool). b && waits && is_for_another i (history w t)) (le-ltb t w.horizon.tick end)

-- The same by numbers: a segment of server i ends with so much of its work waiting, and server j has the next tick. Nobody is a number from
-- 64 on.
unfoldable pub interrupted_by : (i waits j : ℕ) → Bool
interrupted_by i waits j = ltb i most_servers && ltb j most_servers && ltb 0 waits && not (eqb i j)

module _ (i waits j : ℕ) where
  pub of_nobody : most_servers ≤ i → interrupted_by i waits j ≡ false
  unfolding interrupted_by
  of_nobody l = rw (le-ltb i most_servers l) refl

  pub by_nobody : i < most_servers → most_servers ≤ j → interrupted_by i waits j ≡ false
  unfolding interrupted_by
  by_nobody own l = rw (lt-ltb i most_servers own, le-ltb j most_servers l) refl

  module _ (own : i < most_servers) (next : j < most_servers) where
    pub none_waits : waits ≤ 0 → interrupted_by i waits j ≡ false
    unfolding interrupted_by
    none_waits none = rw (lt-ltb i most_servers own, lt-ltb j most_servers next, le-ltb 0 waits none) refl

    pub by_another : 0 < waits → interrupted_by i waits j ≡ not (eqb i j)
    unfolding interrupted_by
    by_another some = rw (lt-ltb i most_servers own, lt-ltb j most_servers next, lt-ltb 0 waits some) refl

  -- where it is interrupted it is a server's
  pub interrupted_server : interrupted_by i waits j ≡ true → i < most_servers
  interrupted_server e = go (dec_lt i most_servers)
    where
      go : Dec (i < most_servers) → i < most_servers
      go (yes l) = l
      go (no l) = not_both e (of_nobody (omega arith))

pub not_by_itself : (i waits : ℕ) → interrupted_by i waits i ≡ false
unfolding interrupted_by
not_by_itself i waits = rw (eq-eqb i i refl) (and_false (ltb i most_servers && ltb i most_servers && ltb 0 waits))

-- before N it is what the definition says
pub by_numbers : (w : Work) {i j t : ℕ} {d : Moment} → history w t ≡ given j d → i < most_servers → j < most_servers → t < w.horizon.tick
    → interrupted_at w i t ≡ interrupted_by i (waiting_at w i t) j
unfolding interrupted_by is_for_another
by_numbers w {i} {j} {t} next own its in_time =
    rw (lt-ltb t w.horizon.tick in_time, next, lt-ltb i most_servers own, lt-ltb j most_servers its) refl
