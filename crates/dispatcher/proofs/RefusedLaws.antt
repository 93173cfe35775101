-- A refusal "changes no dispatcher" (document 01, "Refusal numbers"): a refused move leaves it as it was.
use Prim.Native.Nat.{ℕ}
use lib.Dec.{eqb, ltb}
use mathlib.Core.Bool.{Bool, true, false, cond}
use mathlib.Core.Path.{refl, sym}
use Rattle.arrival.specs.Arrival.{faulty_arrival}
use Rattle.clock.specs.declared.Length.{Length}
use Rattle.refusal.proofs.OnPaperLaws.{refused≢gave}
use Rattle.sizes.specs.Sizes.{clock_end}
use Rattle.dispatcher.specs.declared.Dispatcher.{Dispatcher}
use Rattle.dispatcher.specs.Moves.{Answered, refusing, too_much_work, arrival, ran, tick, LeavesRefused}
use Rattle.dispatcher.specs.Pick.{picked}

module _ (d : Dispatcher) where
  -- where both of two moves do, so does the one that a test chooses
  either : {A : Type 0} (test : Bool) (m k : Answered A) → LeavesRefused d m → LeavesRefused d k → LeavesRefused d (cond test m k)
  either true m k leaves-m leaves-k = leaves-m
  either false m k leaves-m leaves-k = leaves-k

  pub arrival_refused : (i : ℕ) (cost : Length) → LeavesRefused d (arrival d i cost)
  unfolding arrival
  arrival_refused i cost =
      either (faulty_arrival d.count i cost) (refusing d 6) _ (λ n p e. refl)
      (either (too_much_work d i cost) (refusing d 11) _ (λ n p e. refl) (λ n p e. absurd (refused≢gave (sym e))))

  pub tick_refused : LeavesRefused d (tick d)
  unfolding tick ran
  tick_refused =
      either (eqb d.clock.tick clock_end) (refusing d 10) _ (λ n p e. refl)
      (either (ltb (picked d) d.count) (ran d (picked d)) _ (λ n p e. absurd (refused≢gave (sym e)))
      (λ n p e. absurd (refused≢gave (sym e))))
