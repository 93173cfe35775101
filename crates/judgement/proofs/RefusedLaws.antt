-- The numbers and places that a file can be refused with.
use Prim.Native.Nat.{ℕ, zero, suc, ◌≤◌}
use lib.Dec.{ltb}
use lib.ListN.{length}
use mathlib.Core.Bool.{Bool, true, false, cond}
use mathlib.Core.List.{List}
use mathlib.Core.Path.{◌≡◌, refl, subst}
use native.Mathlib.Nat.{le_trans}
use native.Mathlib.Omega.{arith}
use Rattle.arrival.specs.Arrival.{faulty_arrival}
use Rattle.booking.specs.Admission.{Table, first_faulty, shares, admission}
use Rattle.booking.specs.Share.{faulty_booking}
use Rattle.clock.specs.declared.Length.{Length}
use Rattle.counting.proofs.FirstLaws.{first_le}
use Rattle.refusal.specs.Refusals.{Said, refused, gave, accepted, and_then}
use Rattle.sizes.specs.Sizes.{most_arrivals}
use Rattle.workfile.specs.Layout.{header}
use Rattle.workfile.specs.Work.{Work, work}
use Rattle.judgement.specs.Judgement.{length_out_of_range, sizes_out_of_range, layout_broken, backward, late, arrival_judged, arrivals_judged, finishes_judged, work_judged, judged}
use Rattle.judgement.proofs.JudgementLaws.{sized}

-- a refusal has a number to 9, and its place is no more than the most arrivals
abbrev pub Listed : Said (Unit {0}) → Type 0
Listed (refused n place) = (n ≤ 9) × (place ≤ most_arrivals)
Listed (gave u) = Unit {0}

accepted_listed : Listed accepted
accepted_listed = tt

test_listed : (n place : ℕ) (test : Bool) (rest : Said (Unit {0})) → n ≤ 9 → place ≤ most_arrivals → (test ≡ false → Listed rest)
    → Listed (cond test (refused n place) rest)
test_listed n place true rest a b x = (a, b)
test_listed n place false rest a b x = x refl

and_listed : (a b : Said (Unit {0})) → Listed a → Listed b → Listed (and_then a b)
and_listed (refused n place) b x y = x
and_listed (gave u) b x y = y

admission_listed : (H : Length) (t : Table) → t.count ≤ most_arrivals → Listed (admission H t)
admission_listed H t few =
    test_listed 4 (first_faulty H t) (ltb (first_faulty H t) t.count) _ (omega arith)
    (le_trans (first_le t.count (λ k. faulty_booking H (t.booking k))) few)
    (λ e. test_listed 5 0 (ltb H.ticks (shares H t)) accepted (omega arith) (omega arith) (λ e. accepted_listed))

module _ (w : Work) where
  arrival_listed : (k : ℕ) → k ≤ most_arrivals → Listed (arrival_judged w k)
  unfolding arrival_judged
  arrival_listed k le =
      test_listed 6 k (faulty_arrival w.table.count (w.arrival k).server (w.arrival k).cost) _ (omega arith) le
      (λ e. test_listed 7 k (backward w k) _ (omega arith) le
      (λ e. test_listed 8 k (late w k) accepted (omega arith) le (λ e. accepted_listed)))

  arrivals_listed : (k : ℕ) → k ≤ most_arrivals → Listed (arrivals_judged w k)
  unfolding arrivals_judged
  arrivals_listed zero le = accepted_listed
  arrivals_listed (suc k) le =
      and_listed (arrivals_judged w k) (arrival_judged w k) (arrivals_listed k (omega arith)) (arrival_listed k (omega arith))

  work_listed : (places : ℕ) → w.table.count ≤ most_arrivals → w.arrivals ≤ most_arrivals → Listed (work_judged w places)
  unfolding work_judged
  work_listed places servers arrivals =
      and_listed (admission w.frame w.table) _ (admission_listed w.frame w.table servers)
      (and_listed (arrivals_judged w w.arrivals) (finishes_judged w places) (arrivals_listed w.arrivals arrivals)
      (test_listed 9 0 (ltb places w.arrivals) accepted (omega arith) (omega arith) (λ e. accepted_listed)))

-- what a file is refused with is listed so
pub judged_listed : (file : List ℕ) (places : ℕ) → Listed (judged file places)
unfolding judged work
judged_listed file places =
    test_listed 1 0 (length_out_of_range (length file)) _ (omega arith) (omega arith)
    (λ e. test_listed 2 0 (sizes_out_of_range (header file)) _ (omega arith) (omega arith)
    (λ e. let fits = sized (header file) e in
    test_listed 3 0 (layout_broken (header file) (length file)) _ (omega arith) (omega arith)
    (λ e. work_listed (work file) places (omega (arith, fits.servers)) fits.arrivals)))

-- "1, 2, 3, 4 (all servers), 5, then the arrivals in order, each by 6, 7, 8, then 9": no other number, and no place beyond the last arrival
pub refused_listed : (file : List ℕ) (places number place : ℕ) → judged file places ≡ refused number place
    → (number ≤ 9) × (place ≤ most_arrivals)
refused_listed file places number place e = subst Listed e (judged_listed file places)
