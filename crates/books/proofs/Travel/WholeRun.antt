-- The end of a run: at the horizon the books come to what the definitions say of the whole run.
use Prim.Native.Nat.{ℕ, ◌≤◌, ◌<◌}
use lib.ListN.{length, get_or}
use mathlib.Core.List.{List, [], ◌++◌}
use mathlib.Core.Path.{◌≡◌, sym, ◌∙◌, ap, subst}
use native.Mathlib.Nat.{le_antisymm}
use Rattle.finish.specs.Finish.{finish, finish_list}
use Rattle.moments.specs.Moments.{history, postponed_by}
use Rattle.sizes.specs.Sizes.{most_servers}
use Rattle.summary.specs.Summary.{interrupted_of, finishes}
use Rattle.trace.specs.Trace.{trace}
use Rattle.trace.specs.Written.{written}
use Rattle.trace.specs.declared.Segment.{Segment}
use Rattle.workfile.specs.Work.{Work}
use Rattle.books.specs.declared.Current.{Current}
use Rattle.books.proofs.Book.{Run, Here, Book}
use Rattle.books.proofs.Stretches.Interruptions.{interrupted_whole}
use Rattle.books.proofs.Stretches.Segments.{Segments, segments_end, list_after, count_after}
use Rattle.books.proofs.Stretches.Stretches.{chosen_in, InStretch}
use Rattle.books.proofs.Travel.Travels.{Travels}

module _ {r : Run} {h : Here} {b : Book} (v : Travels r h b) (end : r.work.horizon.tick ≤ h.t) where
  abbrev w : Work
  w = r.work

  abbrev c : Current
  c = b.segments.current

  at_horizon : h.t ≡ w.horizon.tick
  at_horizon = le_antisymm v.horizon end

  -- with the last stretch all segments that ended since the list was lent are written, and counted
  last_segment : Segments r (list_after c h.t b.segments.list) (count_after c) h.t
  last_segment = segments_end c v.kept.segmented.stretch v.kept.segmented.segments

  -- of a list that was lent at the start they are the trace
  module _ (none : r.seen ≡ []) where
    since_whole : last_segment.since ≡ trace (history w) w.horizon.tick
    since_whole =
        sym (ap (λ (l : List Segment). l ++ last_segment.since) none)
        ∙ sym last_segment.trace_is
        ∙ ap (trace (history w)) at_horizon

    pub list_whole : list_after c h.t b.segments.list ≡ written (trace (history w) w.horizon.tick) r.list
    list_whole = last_segment.written_is ∙ ap (λ (l : List Segment). written l r.list) since_whole

    pub count_whole : count_after c ≡ length (trace (history w) w.horizon.tick)
    count_whole = last_segment.count_is ∙ ap length since_whole

  pub finishes_whole : b.jobs.finishes ≡ finish_list w.arrivals (finishes w) r.finishes
  finishes_whole =
      v.kept.jobs.finishes_is ∙ ap (λ (n : ℕ). finish_list w.arrivals (finish w (history w) n) r.finishes) at_horizon

  -- what is counted for each server
  pub postponed_whole : (i : ℕ) → i < most_servers → get_or b.turns.postponed i 0 ≡ postponed_by w i w.horizon.tick
  postponed_whole i l = v.kept.counts.each i l ∙ ap (postponed_by w i) at_horizon

  pub interrupted_all : (i : ℕ) → i < most_servers → get_or b.turns.interrupted i 0 ≡ interrupted_of w i
  interrupted_all i l =
      v.kept.interruptions.each i l
      ∙ sym
      (interrupted_whole c
      (subst (λ (n : ℕ). InStretch w c.start.tick n (chosen_in c)) at_horizon v.kept.segmented.stretch)
      i)
