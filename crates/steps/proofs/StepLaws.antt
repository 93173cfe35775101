-- What a server within its ranges is to the steps, and that what they work out fits 64 bits.
use Prim.Native.Nat.{◌+◌, ◌≤◌}
use borrow.Author.Tests.{eqb-false, ne_eqb, ltb-false, le-ltb}
use lib.Dec.{eqb, ltb}
use mathlib.Core.Bool.{false}
use mathlib.Core.Path.{◌≡◌}
use native.Mathlib.Omega.{arith}
use Rattle.clock.specs.Clock.{last_tick}
use Rattle.clock.specs.declared.Length.{Length}
use Rattle.clock.specs.declared.Moment.{Moment}
use Rattle.counting.proofs.TestLaws.{none_of_three}
use Rattle.server.proofs.MoveLaws.{renews_passed, renews_is, arrived_busy, arrived_renewed, arrived_kept, served_last, served_more}
use Rattle.server.proofs.RangeLaws.{deadline_below, deadline_fits}
use Rattle.server.specs.Moves.{arrived, served}
use Rattle.server.specs.Ranges.{Ranged}
use Rattle.server.specs.declared.Server.{Server}
use Rattle.sizes.specs.Sizes.{clock_end, most_frame, most_waiting}
use Rattle.steps.specs.Steps.{last_deadline, beyond, after_arrival, unserved, after_tick}
use Rattle.steps.specs.Working.Fits.{Fits}

pub not_beyond : (s : Server) (t : Moment) → beyond s t ≡ false → Fits s t
unfolding beyond
not_beyond s t e =
    let last = none_of_three _ (ltb s.budget.ticks s.remaining.ticks) (ltb last_deadline s.deadline.tick) e in
    let first = none_of_three (ltb clock_end t.tick) (ltb most_frame s.period.ticks) _ last.0 in
    record {
      moment = ltb-false _ _ first.0;
      period = ltb-false _ _ first.1;
      budget = ltb-false _ _ first.2;
      remaining = ltb-false _ _ last.1;
      deadline = ltb-false _ _ last.2;
    }

fits_not_beyond : (s : Server) (t : Moment) → Fits s t → beyond s t ≡ false
unfolding beyond
fits_not_beyond s t f =
    rw (
      le-ltb clock_end t.tick f.moment,
      le-ltb most_frame s.period.ticks f.period,
      le-ltb s.period.ticks s.budget.ticks f.budget,
      le-ltb s.budget.ticks s.remaining.ticks f.remaining,
      le-ltb last_deadline s.deadline.tick f.deadline,
    )

-- step 1 past its tests
pub arrival_taken : (s : Server) (t : Moment) (cost : Length) → beyond s t ≡ false → s.waiting.ticks + cost.ticks ≤ most_waiting
    → after_arrival s t cost ≡ arrived s t cost
unfolding after_arrival
arrival_taken s t cost e h = rw (e, le-ltb most_waiting (s.waiting.ticks + cost.ticks) h)

-- and step 3
pub record Ready (s : Server) : Type 0 where
  pub works : s.waiting.ticks ≡ 0 → ⊥
  pub has : s.remaining.ticks ≡ 0 → ⊥
  pub shows : s.deadline.tick + s.period.ticks ≤ last_tick

pub not_unserved : (s : Server) → unserved s ≡ false → Ready s
unfolding unserved
not_unserved s e =
    let tests = none_of_three (eqb s.waiting.ticks 0) _ _ e in
    record { works = eqb-false _ _ tests.0; has = eqb-false _ _ tests.1; shows = ltb-false _ _ tests.2 }

ready_not_unserved : (s : Server) → Ready s → unserved s ≡ false
unfolding unserved
ready_not_unserved s a =
    rw (
      ne_eqb s.waiting.ticks 0 a.works,
      ne_eqb s.remaining.ticks 0 a.has,
      le-ltb last_tick (s.deadline.tick + s.period.ticks) a.shows,
    )

pub tick_served : (s : Server) → unserved s ≡ false → after_tick s ≡ served s
unfolding after_tick
tick_served s e = rw e

-- the laws that the code of the steps is proved by
pub ruleset renewals = (renews_passed, renews_is)

pub ruleset arrivals = (arrived_busy, arrived_renewed, arrived_kept)

pub ruleset services = (not_unserved, tick_served, served_last, served_more)

-- a server within its ranges is one of those for which the steps are document 01's
module _ {s : Server} {t : Moment} (r : Ranged t s) (h : t.tick ≤ clock_end) where
  ranged_fits : Fits s t
  ranged_fits =
      record {
        moment = h;
        period = r.period;
        budget = r.fits;
        remaining = r.remaining;
        deadline = deadline_below r h;
      }

  pub arrival_ranged : (cost : Length) → s.waiting.ticks + cost.ticks ≤ most_waiting → after_arrival s t cost ≡ arrived s t cost
  arrival_ranged cost w = arrival_taken s t cost (fits_not_beyond s t ranged_fits) w

  -- where it has work and budget, as whoever runs has
  pub tick_ranged : (s.waiting.ticks ≡ 0 → ⊥) → 1 ≤ s.remaining.ticks → after_tick s ≡ served s
  tick_ranged w left =
      tick_served s (ready_not_unserved s (record { works = w; has = (λ z. omega arith); shows = deadline_fits r h }))
