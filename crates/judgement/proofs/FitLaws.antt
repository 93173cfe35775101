-- What the work of an accepted file has.
use Prim.Native.Nat.{ℕ, zero, suc, ◌≤◌, ◌<◌, ◌+◌, ◌*◌}
use borrow.Author.Tests.{leb-false, ltb-false}
use lib.Dec.{ltb}
use lib.ListN.{length}
use mathlib.Core.Bool.{false}
use mathlib.Core.List.{List}
use mathlib.Core.Logic.{⊎_elim}
use mathlib.Core.Path.{◌≡◌}
use native.Mathlib.Nat.{le_refl, le_trans, eq-or-lt_of_le, le_of_suc-le-suc, not-suc-le-zero}
use native.Mathlib.Omega.{arith}
use Rattle.arrival.proofs.ArrivalLaws.{Sound, sound}
use Rattle.arrival.specs.Arrival.{faulty_arrival}
use Rattle.booking.proofs.AdmissionLaws.{Admitted, admitted}
use Rattle.booking.specs.Admission.{admission}
use Rattle.counting.proofs.BelowLaws.{below_suc}
use Rattle.refusal.proofs.AcceptedLaws.{accepted_test, accepted_both}
use Rattle.refusal.specs.Refusals.{accepted}
use Rattle.sizes.specs.Sizes.{clock_end, most_arrivals, most_frame, most_servers, arrival_bytes, header_bytes, server_bytes}
use Rattle.workfile.specs.Layout.{header}
use Rattle.workfile.specs.Work.{Work, work}
use Rattle.judgement.specs.Judgement.{length_out_of_range, sizes_out_of_range, layout_broken, backward, late, arrival_judged, arrivals_judged, work_judged, judged}
use Rattle.judgement.proofs.JudgementLaws.{sized, laid}

pub record Fit (w : Work) (places : ℕ) : Type 0 where
  pub frame_from : 1 ≤ w.frame.ticks
  pub frame_to : w.frame.ticks ≤ most_frame
  pub horizon : w.horizon.tick ≤ clock_end
  pub servers : w.table.count ≤ most_servers
  pub arrivals : w.arrivals ≤ most_arrivals
  pub admitted : Admitted w.frame w.table
  pub sound : (k : ℕ) → k < w.arrivals → Sound w.table.count (w.arrival k).server (w.arrival k).cost
  pub in_order : (k : ℕ) → suc k < w.arrivals → (w.arrival k).moment.tick ≤ (w.arrival (suc k)).moment.tick
  pub in_time : (k : ℕ) → k < w.arrivals → (w.arrival k).moment.tick < w.horizon.tick
  pub finishes : w.arrivals ≤ places

-- of two arrivals the one listed later does not come before the other
pub in_order_all : {w : Work} {places : ℕ} → Fit w places → (j k : ℕ) → j ≤ k → k < w.arrivals
    → (w.arrival j).moment.tick ≤ (w.arrival k).moment.tick
in_order_all {w} fit j zero h m =
    ⊎_elim (λ (q : j ≡ zero). rw q (le_refl _)) (λ (b : j < zero). absurd (not-suc-le-zero b)) (eq-or-lt_of_le h)
in_order_all {w} fit j (suc k) h m =
    ⊎_elim (λ (q : j ≡ suc k). rw q (le_refl _))
    (λ (b : j < suc k). le_trans (in_order_all fit j k (le_of_suc-le-suc b) (omega arith)) (fit.in_order k m))
    (eq-or-lt_of_le h)

module _ (w : Work) where
  -- each of the first m arrivals is accepted
  each_accepted : (m : ℕ) → arrivals_judged w m ≡ accepted → (k : ℕ) → k < m → arrival_judged w k ≡ accepted
  unfolding arrivals_judged
  each_accepted zero e k h = absurd (not-suc-le-zero h)
  each_accepted (suc m) e k h =
      let both = accepted_both (arrivals_judged w m) (arrival_judged w m) e in
      below_suc (λ (j : ℕ). arrival_judged w j ≡ accepted) m (each_accepted m both.0) both.1 k h

  -- and passed the three tests
  tests_passed : (k : ℕ) → arrival_judged w k ≡ accepted
      → (faulty_arrival w.table.count (w.arrival k).server (w.arrival k).cost ≡ false) × (backward w k ≡ false) × (late w k ≡ false)
  unfolding arrival_judged
  tests_passed k e =
      let six = accepted_test 6 k (faulty_arrival w.table.count (w.arrival k).server (w.arrival k).cost) _ e in
      let seven = accepted_test 7 k (backward w k) _ six.1 in
      let eight = accepted_test 8 k (late w k) _ seven.1 in
      (six.0, seven.0, eight.0)

module _ (file : List ℕ) (places : ℕ) (e : judged file places ≡ accepted) where
  -- 1, 2 and 3
  three_passed : (sizes_out_of_range (header file) ≡ false) × (layout_broken (header file) (length file) ≡ false)
      × (work_judged (work file) places ≡ accepted)
  unfolding judged
  three_passed =
      let one = accepted_test 1 0 (length_out_of_range (length file)) _ e in
      let two = accepted_test 2 0 (sizes_out_of_range (header file)) _ one.1 in
      let three = accepted_test 3 0 (layout_broken (header file) (length file)) _ two.1 in
      (two.0, three.0, three.1)

  -- the records of an accepted file lie in the file, each whole, behind the header and behind one another
  pub judged_laid : (header_bytes ≤ (header file).servers.offset)
      × ((header file).servers.offset + server_bytes * (header file).servers.count ≤ (header file).arrivals.offset)
      × ((header file).arrivals.offset + arrival_bytes * (header file).arrivals.count ≤ length file)
  judged_laid =
      let lies = laid (header file) (length file) three_passed.1 in
      (lies.servers_from, lies.arrivals_from, lies.arrivals_to)

  -- and its work fits
  pub judged_fit : Fit (work file) places
  unfolding work_judged work
  judged_fit =
      let w = work file in
      let five = accepted_both (admission w.frame w.table) _ three_passed.2 in
      let eight = accepted_both (arrivals_judged w w.arrivals) _ five.1 in
      let nine = accepted_test 9 0 (ltb places w.arrivals) _ eight.1 in
      let fits = sized (header file) three_passed.0 in
      let arrival : (k : ℕ) → k < w.arrivals → arrival_judged w k ≡ accepted = each_accepted w w.arrivals eight.0 in
      record {
        frame_from = fits.frame_from;
        frame_to = fits.frame_to;
        horizon = fits.horizon;
        servers = fits.servers;
        arrivals = fits.arrivals;
        admitted = admitted w.frame w.table five.0;
        sound = λ k h. sound w.table.count (w.arrival k).server (w.arrival k).cost (tests_passed w k (arrival k h)).0;
        in_order = λ k h. ltb-false _ _ (tests_passed w (suc k) (arrival (suc k) h)).1;
        in_time = λ k h. leb-false _ _ (tests_passed w k (arrival k h)).2;
        finishes = ltb-false _ _ nine.0;
      }
