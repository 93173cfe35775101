-- What an arrival without a fault has.
use Prim.Native.Nat.{ℕ, ◌≤◌, ◌<◌}
use borrow.Author.Tests.{leb-false, ltb-false, lt-leb, le-ltb}
use lib.Dec.{leb}
use mathlib.Core.Bool.{false}
use mathlib.Core.Path.{◌≡◌}
use Rattle.clock.specs.declared.Length.{Length}
use Rattle.counting.proofs.TestLaws.{none_of_three}
use Rattle.sizes.specs.Sizes.{most_cost}
use Rattle.arrival.specs.Arrival.{faulty_arrival}

pub record Sound (n server : ℕ) (cost : Length) : Type 0 where
  pub known : server < n
  pub from : 1 ≤ cost.ticks
  pub to : cost.ticks ≤ most_cost

pub sound : (n server : ℕ) (cost : Length) → faulty_arrival n server cost ≡ false → Sound n server cost
sound n server cost e =
    let tests = none_of_three (leb n server) _ _ e in
    record {
      known = leb-false _ _ tests.0;
      from = ltb-false _ _ tests.1;
      to = ltb-false _ _ tests.2;
    }

-- and what has that is without a fault
pub not_faulty : (n server : ℕ) (cost : Length) → Sound n server cost → faulty_arrival n server cost ≡ false
not_faulty n server cost s =
    rw (lt-leb n server s.known, le-ltb cost.ticks 1 s.from, le-ltb most_cost cost.ticks s.to)
