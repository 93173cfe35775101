-- Counting goes on with every move.
use Prim.Native.Nat.{ℕ, ◌+◌, ◌≤◌}
use mathlib.Core.Bool.{Bool, true, false, cond}
use mathlib.Core.Path.{◌≡◌, subst⁻¹}
use native.Mathlib.Omega.{arith}
use Rattle.callers.proofs.LiveLaws.{counting_none, counting_arrived, counting_ticked}
use Rattle.callers.specs.Live.{LedCounting}
use Rattle.clock.specs.declared.Length.{Length}
use Rattle.demand_3.specs.Got.{is_under}
use Rattle.dispatcher.specs.declared.Dispatcher.{Dispatcher}
use Rattle.dispatcher.specs.declared.Turn.{Turn}
use Rattle.live_loop.specs.TwoForms.{ArrivalGives, TickGives}
use Rattle.moments.specs.Moments.{choice_of}
use Rattle.refusal.specs.Refusals.{on_paper}
use Rattle.refusal.specs.declared.Refusal.{Refusal}
use Rattle.std.specs.Prelude.{Result}
use Rattle.test_in_time.specs.declared.bandwidth.Window.{Window}
use Rattle.test_in_time.specs.declared.lent.Counted.{Counted}
use Rattle.test_in_time.specs.Working.Counted.{Counts}

-- a count and a dispatcher
abbrev pub having : ℕ → Dispatcher → Counted
having n d = record { got = n; dispatcher = d }

-- what one tick more counts
abbrev pub more : Window → Result Turn Refusal → ℕ
more w answer = cond (is_under w.server w.to (choice_of (on_paper answer))) 1 0

one_at_most : (b : Bool) → cond b 1 0 ≤ 1
one_at_most true = omega arith
one_at_most false = omega arith

module _ (w : Window) (start : Dispatcher) where
  -- after an arrival, and no tick yet
  pub counts_arrived : (server : ℕ) (cost : Length) (answer : Result (Unit {0}) Refusal) (e : Dispatcher) → ArrivalGives start server cost answer e
      → Counts w start 0 (having 0 e)
  counts_arrived server cost answer e gives =
      record {
        led =
            counting_arrived (counting_none w.server w.to start) (record { answer = answer; dispatcher = e }) server cost gives.0;
        few = omega arith;
        within = gives.1;
      }

  -- after one tick more
  pub counts_ticked : {k : ℕ} {c : Counted} → Counts w start k c → (answer : Result Turn Refusal) (e : Dispatcher) → TickGives c.dispatcher answer e
      → (n : ℕ) → n ≡ c.got + more w answer → Counts w start (k + 1) (having n e)
  counts_ticked {c = c} ok answer e gives n is =
      record {
        led =
            subst⁻¹ (LedCounting w.server w.to start e) is
            (counting_ticked ok.led (record { answer = answer; dispatcher = e }) gives.0);
        few = omega (arith, is, ok.few, one_at_most (is_under w.server w.to (choice_of (on_paper answer))));
        within = gives.1;
      }
