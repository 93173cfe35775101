-- Idle time up to a moment that comes no later than the next arrival.
use Prim.Native.Nat.{ℕ, zero, suc, ◌+◌, ◌-◌}
use lib.ListN.{length}
use mathlib.Core.Path.{◌≡◌, refl, sym, ap, ap₂, subst}
use native.Mathlib.Omega.{arith}
use Rattle.clock.specs.Clock.{last_tick, moment}
use Rattle.clock.specs.declared.Moment.{Moment}
use Rattle.dispatcher.specs.Moves.{standing}
use Rattle.dispatcher.specs.declared.Dispatcher.{Dispatcher}
use Rattle.judgement.proofs.FitLaws.{Fit}
use Rattle.sizes.specs.Sizes.{most_servers}
use Rattle.books.proofs.Book.{Run, Here, here, Book, SegmentBook, with_segments}
use Rattle.books.proofs.Stretches.Turns.{turned}
use Rattle.books.proofs.Travel.ArrivalTaken.{Taking, next_by}
use Rattle.books.proofs.Travel.BetweenEvents.{Ahead, before_end, now_within}
use Rattle.books.proofs.Travel.EventBooks.{kept_idle}
use Rattle.books.proofs.Travel.Kept.{Kept}
use Rattle.books.proofs.Travel.Stands.{stands_clock}
use Rattle.books.proofs.Travel.Travels.{OnTheWay, Travels}
use Rattle.books.proofs.Tree.Keys.{root_none}
use Rattle.books.proofs.Tree.Winners.{root_of}

module _ {r : Run} {h : Here} {b : Book} (fit : Fit r.work (length r.finishes)) (v : Travels r h b)
    (none : root_of b.turns.tree ≡ last_tick) {stop : ℕ} (ahead : Ahead r.work h stop) {segments : SegmentBook}
    (segments_is : segments ≡ turned b.segments h.t most_servers (moment 0)) where
  -- the dispatcher then
  abbrev then : Dispatcher
  then = standing h.dispatcher (moment stop) h.dispatcher.servers

  idle_kept : Kept r (here stop h.taken then) (with_segments b segments)
  idle_kept = go (stop - h.t) refl
    where
      now : h.dispatcher.clock.tick ≡ h.t
      now = ap (λ (m : Moment). m.tick) (stands_clock fit v.kept.stands (before_end fit v))

      go : (k : ℕ) → stop - h.t ≡ k → Kept r (here stop h.taken then) (with_segments b segments)
      go zero q = let no : ⊥ = omega (arith, ahead.some) in absurd no
      go (suc k) q =
          subst (λ (x : SegmentBook). Kept r (here stop h.taken then) (with_segments b x)) (sym segments_is)
          (subst (λ (x : Here). Kept r x (with_segments b (turned b.segments h.t most_servers (moment 0))))
          (ap₂ (λ (u c : ℕ). here u h.taken (standing h.dispatcher (moment c) h.dispatcher.servers)) reach reached)
          (kept_idle fit v.kept k (omega (arith, ahead.in_time)) (λ a l m. omega (arith, ahead.later a l m)) (root_none v.keyed (now_within fit v) none)))
        where
          reach : h.t + suc k ≡ stop
          reach = omega (arith, ahead.some)

          reached : h.dispatcher.clock.tick + suc k ≡ stop
          reached = omega (arith, now, ahead.some)

  idle_travels : Travels r (here stop h.taken then) (with_segments b segments)
  idle_travels =
      record {
        kept = idle_kept;
        horizon = ahead.in_time;
        keyed = record { winners = v.keyed.winners; enough = v.keyed.enough; keys = v.keyed.keys };
      }

  -- so the run is on its way as before
  pub idled_on : {until root : ℕ} {from : Here} → Taking r.work until from h b.turns.tree stop root
      → OnTheWay r (here stop h.taken then) (with_segments b segments) until stop root
  idled_on g = record { travels = idle_travels; by = next_by g; next_is = g.next_is; root_is = g.root_is }
