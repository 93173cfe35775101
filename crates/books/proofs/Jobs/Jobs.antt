-- Which job of each server is being served, and what is left of it.
use Prim.Native.Nat.{ℕ, zero, suc, ◌+◌, ◌-◌, ◌≤◌, ◌<◌}
use borrow.Author.Tests.{eq-eqb, ne_eqb}
use mathlib.Core.Path.{◌≡◌, refl, sym, ◌∙◌, ap, subst, subst⁻¹}
use native.Mathlib.Decide.{dec_lt, ℕ_discrete}
use native.Mathlib.Nat.{add-sub_of_le, add-suc, add-zero}
use native.Mathlib.Omega.{arith}
use Rattle.clock.specs.Clock.{moment}
use Rattle.clock.specs.declared.Moment.{Moment}
use Rattle.counting.specs.Sum.{sum}
use Rattle.finish.proofs.FinishLaws.{finish_open, finish_stays, finish_now, finish_unserved}
use Rattle.finish.specs.Finish.{cost_for, work_of, is_open, finished_at, served_by, finish}
use Rattle.history.proofs.ChoiceLaws.{served_own, served_other, for_nobody, for_other}
use Rattle.history.specs.Choice.{nobody, given, ticks_served}
use Rattle.judgement.proofs.FitLaws.{Fit}
use Rattle.moments.specs.Moments.{history}
use Rattle.workfile.specs.Work.{Work}

-- The work of one server, arrival by arrival.
module _ (w : Work) (i : ℕ) where
  pub work_none : work_of w i 0 ≡ 0
  unfolding work_of sum
  work_none = refl

  pub work_own : (k : ℕ) → (w.arrival k).server ≡ i → work_of w i (suc k) ≡ work_of w i k + (w.arrival k).cost.ticks
  unfolding work_of sum
  work_own k e = rw (eq-eqb _ _ e)

  pub work_other : (k : ℕ) → ((w.arrival k).server ≡ i → ⊥) → work_of w i (suc k) ≡ work_of w i k
  unfolding work_of sum
  work_other k n = rw (ne_eqb _ _ n) (add-zero (sum k (cost_for w i)))

  work_step : (k : ℕ) → work_of w i k ≤ work_of w i (suc k)
  work_step k = go (ℕ_discrete (w.arrival k).server i)
    where
      go : Dec ((w.arrival k).server ≡ i) → work_of w i k ≤ work_of w i (suc k)
      go (yes e) = omega (arith, work_own k e)
      go (no n) = omega (arith, work_other k n)

  work_more : (k r : ℕ) → work_of w i k ≤ work_of w i (k + r)
  work_more k zero = rw add-zero (omega arith)
  work_more k (suc r) = rw (add-suc k r) (omega (arith, work_more k r, work_step (k + r)))

  pub work_to : (k l : ℕ) → k ≤ l → work_of w i k ≤ work_of w i l
  work_to k l le = subst (λ (n : ℕ). work_of w i k ≤ work_of w i n) (add-sub_of_le le) (work_more k (l - k))

-- r is the next job of server i from `from` on, or behind all arrivals where there is none
pub record NextJob (w : Work) (i from r : ℕ) : Type 0 where
  pub own : r < w.arrivals → (w.arrival r).server ≡ i
  pub none : work_of w i r ≡ work_of w i from

-- Server i at moment t, with j arrivals taken: where nothing is left of `job`, all its jobs before that one have been served and none
-- of that one; else `job` is the one being served, and `left` what is left of it.
pub record Job (w : Work) (t j i job left : ℕ) : Type 0 where
  pub own : job < w.arrivals → (w.arrival job).server ≡ i
  pub between : left ≡ 0 → ticks_served (history w) i t ≡ work_of w i job
  pub taken : 0 < left → job < j
  pub begun : 0 < left → work_of w i job ≤ ticks_served (history w) i t
  pub rest : 0 < left → ticks_served (history w) i t + left ≡ work_of w i (suc job)

module _ {w : Work} {t i job left : ℕ} where
  -- more arrivals
  pub job_later : {j k : ℕ} → j ≤ k → Job w t j i job left → Job w t k i job left
  job_later le b =
      record {
        own = b.own;
        between = b.between;
        taken = λ l. omega (arith, b.taken l);
        begun = b.begun;
        rest = b.rest;
      }

  -- time in which the server is not served
  pub job_waits : {j : ℕ} (u : ℕ) → ticks_served (history w) i u ≡ ticks_served (history w) i t → Job w t j i job left → Job w u j i job left
  job_waits u e b =
      record {
        own = b.own;
        between = λ l. e ∙ b.between l;
        taken = b.taken;
        begun = λ l. omega (arith, b.begun l);
        rest = λ l. omega (arith, b.rest l);
      }

-- where work of the server waits, that is work of `job`, which is opened
module _ {w : Work} {t j i job places : ℕ} (fit : Fit w places) (taken : j ≤ w.arrivals) (b : Job w t j i job 0)
    (waits : ticks_served (history w) i t < work_of w i j) where
  pub waits_taken : job < j
  waits_taken = go (dec_lt job j)
    where
      go : Dec (job < j) → job < j
      go (yes l) = l
      go (no l) = let no : ⊥ = omega (arith, work_to w i j job (omega arith), b.between refl) in absurd no

  pub job_opens : Job w t j i job (w.arrival job).cost.ticks
  job_opens =
      record {
        own = b.own;
        between = λ e. let no : ⊥ = omega (arith, (fit.sound job (omega (arith, waits_taken))).from) in absurd no;
        taken = λ l. waits_taken;
        begun = λ l. omega (arith, b.between refl);
        rest = λ l. omega (arith, b.between refl, work_own w i job (b.own (omega (arith, waits_taken))));
      }

-- k ticks of the job that is served, which may end it
module _ {w : Work} {t j i job left : ℕ} (k : ℕ) (b : Job w t j i job left) (some : 0 < left) (within : k ≤ left)
    (ticks : ticks_served (history w) i (t + k) ≡ ticks_served (history w) i t + k) where
  pub job_goes_on : k < left → Job w (t + k) j i job (left - k)
  job_goes_on more =
      record {
        own = b.own;
        between = λ e. let no : ⊥ = omega arith in absurd no;
        taken = λ l. b.taken some;
        begun = λ l. omega (arith, b.begun some);
        rest = λ l. omega (arith, b.rest some);
      }

  pub job_ends : k ≡ left → {next : ℕ} → NextJob w i (suc job) next → Job w (t + k) j i next 0
  job_ends e next =
      record {
        own = next.own;
        between = λ z. omega (arith, b.rest some, next.none);
        taken = λ l. let no : ⊥ = omega arith in absurd no;
        begun = λ l. let no : ⊥ = omega arith in absurd no;
        rest = λ l. let no : ⊥ = omega arith in absurd no;
      }

-- no more is left than waits
pub job_waiting : {w : Work} {t j i job left waiting : ℕ} → Job w t j i job left → 0 < left
    → ticks_served (history w) i t + waiting ≡ work_of w i j → left ≤ waiting
job_waiting {w} {t} {j} {i} {job} b some e = omega (arith, b.rest some, work_to w i (suc job) j (b.taken some))

-- When jobs finish.

-- idle time ends no job
pub idle_ends_none : (w : Work) (t k : ℕ) → ((q : ℕ) → q < k → history w (t + q) ≡ nobody) → (a : ℕ)
    → finish w (history w) (t + k) a ≡ finish w (history w) t a
idle_ends_none w t k all a =
    finish_unserved (history w) (w.arrival a).server (work_of w (w.arrival a).server (suc a)) t (t + k) (omega arith)
    (served_other (history w) (w.arrival a).server t k nobody (for_nobody (w.arrival a).server) all)

-- k + 1 ticks of server i end none but the job that is served
module _ {w : Work} {t j i job left places : ℕ} (fit : Fit w places) (k : ℕ) (d : Moment) (b : Job w t j i job left)
    (some : 0 < left) (within : suc k ≤ left) (taken : j ≤ w.arrivals)
    (all : (q : ℕ) → q < suc k → history w (t + q) ≡ given i d) where
  ticks : ticks_served (history w) i (t + suc k) ≡ ticks_served (history w) i t + suc k
  ticks = served_own (history w) i t (suc k) d all

  own_job : (w.arrival job).server ≡ i
  own_job = b.own (omega (arith, b.taken some))

  -- another job of the same server
  own_other : (a : ℕ) → a < w.arrivals → (w.arrival a).server ≡ i → (a ≡ job → ⊥)
      → served_by (history w) i (work_of w i (suc a)) (t + suc k) ≡ served_by (history w) i (work_of w i (suc a)) t
  own_other a l own n = go (dec_lt a job)
    where
      go : Dec (a < job) → served_by (history w) i (work_of w i (suc a)) (t + suc k) ≡ served_by (history w) i (work_of w i (suc a)) t
      go (yes before) =
          finish_stays (history w) i (work_of w i (suc a)) t (t + suc k)
          (omega (arith, work_to w i (suc a) job before, b.begun some))
          (omega arith)
      go (no after) =
          let more : ticks_served (history w) i t + left < work_of w i (suc a)
          = omega (
            arith,
            b.rest some,
            work_to w i (suc job) a (omega arith),
            work_own w i a own,
            (fit.sound a l).from,
          ) in
          finish_open (history w) i (work_of w i (suc a)) (t + suc k) (omega (arith, ticks))
          ∙ sym (finish_open (history w) i (work_of w i (suc a)) t (omega arith))

  pub run_ends_no_other : (a : ℕ) → a < w.arrivals → (a ≡ job → ⊥)
      → finish w (history w) (t + suc k) a ≡ finish w (history w) t a
  run_ends_no_other a l n = go (ℕ_discrete (w.arrival a).server i)
    where
      go : Dec ((w.arrival a).server ≡ i) → finish w (history w) (t + suc k) a ≡ finish w (history w) t a
      go (yes own) =
          subst⁻¹ (λ (s : ℕ). served_by (history w) s (work_of w s (suc a)) (t + suc k) ≡ served_by (history w) s (work_of w s (suc a)) t)
          own
          (own_other a l own n)
      go (no other) =
          finish_unserved (history w) (w.arrival a).server (work_of w (w.arrival a).server (suc a)) t (t + suc k) (omega arith)
          (served_other (history w) (w.arrival a).server t (suc k) (given i d) (for_other (w.arrival a).server i d other) all)

  -- the job itself was open
  pub job_was_open : finish w (history w) t job ≡ is_open
  job_was_open =
      subst⁻¹ (λ (s : ℕ). served_by (history w) s (work_of w s (suc job)) t ≡ is_open) own_job
      (finish_open (history w) i (work_of w i (suc job)) t (omega (arith, b.rest some)))

  -- and still is, or has just finished
  pub job_still_open : suc k < left → finish w (history w) (t + suc k) job ≡ is_open
  job_still_open more =
      subst⁻¹ (λ (s : ℕ). served_by (history w) s (work_of w s (suc job)) (t + suc k) ≡ is_open) own_job
      (finish_open (history w) i (work_of w i (suc job)) (t + suc k) (omega (arith, b.rest some, ticks)))

  pub job_finishes : suc k ≡ left → finish w (history w) (t + suc k) job ≡ finished_at (moment (t + suc k))
  job_finishes e =
      subst⁻¹ (λ (s : ℕ). served_by (history w) s (work_of w s (suc job)) (t + suc k) ≡ finished_at (moment (t + suc k))) own_job
      (subst⁻¹ (λ (u : ℕ). served_by (history w) i (work_of w i (suc job)) u ≡ finished_at (moment u)) (add-suc t k)
      (finish_now (history w) i (work_of w i (suc job)) (t + k)
      (omega (arith, served_own (history w) i t k d (λ q l. all q (omega arith)), b.rest some))
      (ap (ticks_served (history w) i) (sym (add-suc t k)) ∙ ticks ∙ omega (arith, b.rest some))))
