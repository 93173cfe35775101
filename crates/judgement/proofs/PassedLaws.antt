-- The arrivals judged one after the other, and the finish list after all of them.
use Prim.Native.Nat.{ℕ, zero, suc, ◌≤◌, ◌<◌, zero-le}
use borrow.Author.Tests.{le-ltb, lt-ltb, le-leb, lt-leb}
use lib.Dec.{ltb}
use mathlib.Core.Bool.{true, false}
use mathlib.Core.Logic.{⊎_elim}
use mathlib.Core.Path.{◌≡◌, refl, sym, ◌∙◌, ap}
use native.Mathlib.Nat.{eq-or-lt_of_le, le_of_suc-le-suc, not-suc-le-zero}
use Rattle.arrival.specs.Arrival.{faulty_arrival}
use Rattle.arrival.specs.declared.Arrival.{Arrival}
use Rattle.refusal.specs.Refusals.{refused, accepted}
use Rattle.workfile.specs.Work.{Work}
use Rattle.judgement.specs.Judgement.{backward, arrival_judged, arrivals_judged}
use Rattle.judgement.specs.Working.Arrivals.{list_judged}

module _ (w : Work) where
  -- the moment of the arrival listed before the k-th; for the first 0, which no moment is before
  abbrev pub moment_before : ℕ → ℕ
  moment_before zero = 0
  moment_before (suc k) = (w.arrival k).moment.tick

  backward_is : (k : ℕ) → backward w k ≡ ltb (w.arrival k).moment.tick (moment_before k)
  backward_is zero = sym (le-ltb (w.arrival 0).moment.tick 0 zero-le)
  backward_is (suc k) = refl

  -- a refusal at k is that of all m
  refused_at : (k m n p : ℕ) → arrivals_judged w k ≡ accepted → k < m → arrival_judged w k ≡ refused n p
      → arrivals_judged w m ≡ refused n p
  unfolding arrivals_judged
  refused_at k zero n p e h r = absurd (not-suc-le-zero h)
  refused_at k (suc m) n p e h r =
      ⊎_elim (λ (q : k ≡ m). rw (ap (arrivals_judged w) (sym q) ∙ e) (ap (arrival_judged w) (sym q) ∙ r))
      (λ (b : k < m). rw (refused_at k m n p e b r))
      (eq-or-lt_of_le (le_of_suc-le-suc h))

  -- The first k arrivals have passed 6, 7 and 8, and the last of them came at `before`.
  pub record Passed (k before : ℕ) : Type 0 where
    pub judged : arrivals_judged w k ≡ accepted
    pub before_is : before ≡ moment_before k

  pub passed_none : Passed 0 0
  unfolding arrivals_judged
  passed_none = record { judged = refl; before_is = refl }

  -- the next arrival, as it was read: it has a fault, is before the one before it, or late, or it passes
  module _ {k before : ℕ} (s : Passed k before) {a : Arrival} (read : a ≡ w.arrival k) where
    in_order : before ≤ a.moment.tick → backward w k ≡ false
    in_order h = backward_is k ∙ le-ltb _ _ (rw (s.before_is, read) at h)

    pub passed_more : faulty_arrival w.table.count a.server a.cost ≡ false → before ≤ a.moment.tick
        → a.moment.tick < w.horizon.tick → Passed (suc k) a.moment.tick
    unfolding arrival_judged arrivals_judged
    passed_more e h l =
        record {
          judged = rw (s.judged, rw read at e, in_order h, lt-leb _ _ (rw read at l));
          before_is = ap (λ (b : Arrival). b.moment.tick) read;
        }

    module _ (places : ℕ) (more : k < w.arrivals) where
      list_refused : (n : ℕ) → arrival_judged w k ≡ refused n k → list_judged w places ≡ refused n k
      list_refused n r = rw (refused_at k w.arrivals n k s.judged more r)

      pub passed_faulty : faulty_arrival w.table.count a.server a.cost ≡ true → list_judged w places ≡ refused 6 k
      unfolding arrival_judged
      passed_faulty e = list_refused 6 (rw (rw read at e))

      pub passed_backward : faulty_arrival w.table.count a.server a.cost ≡ false → a.moment.tick < before
          → list_judged w places ≡ refused 7 k
      unfolding arrival_judged
      passed_backward e h = list_refused 7 (rw (rw read at e, backward_is k, lt-ltb _ _ (rw (s.before_is, read) at h)))

      pub passed_late : faulty_arrival w.table.count a.server a.cost ≡ false → before ≤ a.moment.tick
          → w.horizon.tick ≤ a.moment.tick → list_judged w places ≡ refused 8 k
      unfolding arrival_judged
      passed_late e h l = list_refused 8 (rw (rw read at e, in_order h, le-leb _ _ (rw read at l)))

  -- after all of them 9, or acceptance
  pub passed_over : {before : ℕ} (places : ℕ) → Passed w.arrivals before → places < w.arrivals
      → list_judged w places ≡ refused 9 0
  passed_over places s h = rw (s.judged, lt-ltb _ _ h)

  pub passed_whole : {before : ℕ} (places : ℕ) → Passed w.arrivals before → w.arrivals ≤ places
      → list_judged w places ≡ accepted
  passed_whole places s h = rw (s.judged, le-ltb _ _ h)
