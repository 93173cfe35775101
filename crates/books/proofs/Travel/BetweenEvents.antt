-- What a run may rely on between two events: of the server that is picked, and that no number is too large.
use Prim.Native.Nat.{ℕ, ◌+◌, ◌%◌, ◌≤◌, ◌<◌}
use borrow.Author.Tests.{eqb-false}
use lib.ListN.{length, get_or}
use mathlib.Core.Path.{◌≡◌, ◌∙◌, ap, subst⁻¹}
use native.Mathlib.Nat.{pos_of_ne-zero}
use native.Mathlib.Omega.{arith}
use Rattle.clock.specs.Clock.{last_tick}
use Rattle.clock.specs.declared.Moment.{Moment}
use Rattle.dispatcher.proofs.PickLaws.{earliest_busy, earliest_charged}
use Rattle.dispatcher.specs.Pick.{server_at, Earliest}
use Rattle.dispatcher.specs.Within.{Within}
use Rattle.finish.specs.Finish.{finish}
use Rattle.judgement.proofs.FitLaws.{Fit, in_order_all}
use Rattle.moments.proofs.PostponedLaws.{postponed_le}
use Rattle.moments.specs.Moments.{history}
use Rattle.server.specs.Ranges.{Ranged}
use Rattle.sizes.specs.Sizes.{clock_end, most_servers}
use Rattle.trace.proofs.WrittenLaws.{written_length}
use Rattle.workfile.specs.Work.{Work}
use Rattle.books.proofs.Accepted.{next_stop, stop_arrival, stop_until}
use Rattle.books.proofs.Book.{Run, Here, Book}
use Rattle.books.proofs.Jobs.FinishList.{finishes_length}
use Rattle.books.proofs.Stretches.Interruptions.{interruptions_few}
use Rattle.books.proofs.Stretches.Segmented.{segmented_bounded}
use Rattle.books.proofs.Stretches.Turns.{Bounded}
use Rattle.books.proofs.Travel.Stands.{NoneBefore, stands_within, stands_clock}
use Rattle.books.proofs.Travel.Travels.{Travels}
use Rattle.books.proofs.Tree.Keys.{root_picked}
use Rattle.books.proofs.Tree.Winners.{root_of, Leaf}

-- a moment ahead up to which no arrival comes
pub record Ahead (w : Work) (h : Here) (stop : ℕ) : Type 0 where
  pub some : h.t < stop
  pub in_time : stop ≤ w.horizon.tick
  pub later : NoneBefore w h.taken stop

-- as the next stop is, where that is ahead
pub stop_ahead : {w : Work} {places until next : ℕ} {h : Here} → Fit w places → next ≡ next_stop w until h.taken → h.t < next
    → until ≤ w.horizon.tick → Ahead w h next
stop_ahead {w} {until = until} {h = h} fit is some in_time =
    record {
      some = some;
      in_time = omega (arith, is, stop_until w until h.taken);
      later = λ a l b. omega (arith, is, stop_arrival w until h.taken (omega arith), in_order_all fit h.taken a l b);
    }

module _ {r : Run} {h : Here} {b : Book} (fit : Fit r.work (length r.finishes)) (v : Travels r h b) where
  pub before_end : h.t ≤ clock_end
  before_end = omega (arith, v.horizon, fit.horizon)

  pub now_within : Within h.dispatcher
  now_within = stands_within fit v.kept.stands before_end

  pub clock_now : h.dispatcher.clock.tick ≡ h.t
  clock_now = ap (λ (m : Moment). m.tick) (stands_clock fit v.kept.stands before_end)

  -- the current stretch and the counts
  pub bounded : Bounded clock_end h.t b.segments
  bounded =
      let x = segmented_bounded v.kept.segmented in record { from = x.from; counted = omega (arith, x.counted, before_end) }

  -- in k ticks at most k segments end
  pub ended_few : r.lent_at + b.segments.current.count ≤ h.t
  ended_few = v.kept.segmented.few

  pub postponed_few : (i : ℕ) → i < most_servers → get_or b.turns.postponed i 0 ≤ clock_end
  postponed_few i l = omega (arith, v.kept.counts.each i l, postponed_le r.work i h.t, before_end)

  pub interrupted_few : (i : ℕ) → get_or b.turns.interrupted i 0 ≤ clock_end
  interrupted_few i = omega (arith, interruptions_few v.kept.interruptions i, v.kept.segmented.stretch.from, before_end)

  -- the finish list
  pub finishes_long : length b.jobs.finishes ≡ length r.finishes
  finishes_long =
      ap length v.kept.jobs.finishes_is
      ∙ finishes_length r.work.arrivals r.finishes (finish r.work (history r.work) h.t)

  -- the trace list
  pub list_long : length b.segments.list ≡ length r.list
  list_long =
      let s = v.kept.segmented.segments in ap length s.written_is ∙ written_length s.since r.list

  -- the root tells which server is picked
  pub root_pick : (root : ℕ) → root ≡ root_of b.turns.tree → (root ≡ last_tick → ⊥)
      → Earliest h.dispatcher h.dispatcher.count (root % 64)
  root_pick root is works =
      subst⁻¹ (λ (k : ℕ). Earliest h.dispatcher h.dispatcher.count (k % 64)) is
      (root_picked v.keyed now_within (λ e. works (is ∙ e)))

  -- the server that is picked
  module _ {i : ℕ} (pick : Earliest h.dispatcher h.dispatcher.count i) where
    pub picked_leaf : Leaf b.turns.tree i
    picked_leaf = record { place = omega (arith, pick.among, v.keyed.enough); winners = v.keyed.winners }

    pub picked_server : i < most_servers
    picked_server = omega (arith, pick.among, now_within.count)

    pub picked_ranged : Ranged h.dispatcher.clock (server_at h.dispatcher i)
    picked_ranged = now_within.servers i pick.among

    pub picked_waits : 0 < (server_at h.dispatcher i).waiting.ticks
    picked_waits = pos_of_ne-zero (eqb-false _ _ (earliest_busy pick))

    pub picked_charged : 0 < (server_at h.dispatcher i).remaining.ticks
    picked_charged = earliest_charged now_within pick
