-- What the functions of a run may rely on: the file was accepted.
use Prim.Native.Nat.{ℕ, min, ◌≤◌, ◌<◌}
use borrow.Author.Tests.{lt-ltb, le-ltb}
use lib.Dec.{ltb}
use mathlib.Core.Bool.{cond}
use mathlib.Core.List.{List}
use mathlib.Core.Path.{◌≡◌, ap}
use native.Mathlib.Decide.{dec_lt}
use native.Mathlib.Omega.{arith}
use Rattle.judgement.proofs.FitLaws.{Fit, judged_fit}
use Rattle.judgement.specs.Judgement.{judged}
use Rattle.refusal.specs.Refusals.{accepted}
use Rattle.workfile.specs.Layout.{header}
use Rattle.workfile.specs.Work.{Work, work, work_under}
use Rattle.workfile.specs.declared.Header.{Header}

pub record Accepted (file : List ℕ) : Type 0 where
  pub fit : Fit (work file) (work file).arrivals

-- a work that fits beside one finish list fits beside any that is long enough
pub fit_beside : {w : Work} {places : ℕ} (others : ℕ) → Fit w places → w.arrivals ≤ others → Fit w others
fit_beside others fit long =
    record {
      frame_from = fit.frame_from;
      frame_to = fit.frame_to;
      horizon = fit.horizon;
      servers = fit.servers;
      arrivals = fit.arrivals;
      admitted = fit.admitted;
      sound = fit.sound;
      in_order = fit.in_order;
      in_time = fit.in_time;
      finishes = long;
    }

pub judged_accepted : (file : List ℕ) (places : ℕ) → judged file places ≡ accepted → Accepted file
judged_accepted file places e =
    record {
      fit = fit_beside (work file).arrivals (judged_fit file places e) (omega arith);
    }

-- What the header of a file tells of its work, as it was read.
module _ (file : List ℕ) {h : Header} (read : h ≡ header file) where
  pub work_read : work_under h file ≡ work file
  unfolding work
  work_read = ap (λ (x : Header). work_under x file) read

  pub arrivals_read : h.arrivals.count ≡ (work file).arrivals
  unfolding work
  arrivals_read = ap (λ (x : Header). x.arrivals.count) read

  pub horizon_read : h.horizon.tick ≡ (work file).horizon.tick
  unfolding work
  horizon_read = ap (λ (x : Header). x.horizon.tick) read

  pub frame_read : h.frame ≡ (work file).frame
  unfolding work
  frame_read = ap (λ (x : Header). x.frame) read

  pub servers_read : h.servers.count ≡ (work file).table.count
  unfolding work
  servers_read = ap (λ (x : Header). x.servers.count) read

  pub booking_read : (k : ℕ) → (work_under h file).table.booking k ≡ (work file).table.booking k
  unfolding work
  booking_read k = ap (λ (x : Header). (work_under x file).table.booking k) read

  pub arrival_read : (k : ℕ) → (work_under h file).arrival k ≡ (work file).arrival k
  unfolding work
  arrival_read k = ap (λ (x : Header). (work_under x file).arrival k) read

-- How far a run goes at most without an arrival, when it is told to end at `until`: up to the moment of arrival j.
unfoldable pub next_stop : Work → ℕ → ℕ → ℕ
next_stop w until j = cond (ltb j w.arrivals) (min (w.arrival j).moment.tick until) until

module _ (w : Work) (until j : ℕ) where
  pub stop_arrival : j < w.arrivals → next_stop w until j ≡ min (w.arrival j).moment.tick until
  unfolding next_stop
  stop_arrival l = rw (lt-ltb j w.arrivals l)

  pub stop_behind : w.arrivals ≤ j → next_stop w until j ≡ until
  unfolding next_stop
  stop_behind l = rw (le-ltb j w.arrivals l)

  pub stop_until : next_stop w until j ≤ until
  stop_until = go (dec_lt j w.arrivals)
    where
      go : Dec (j < w.arrivals) → next_stop w until j ≤ until
      go (yes l) = omega (arith, stop_arrival l)
      go (no l) = omega (arith, stop_behind (omega arith))
