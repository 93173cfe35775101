-- The records that the finish list of a run tells are those of the run.
use Prim.Native.Nat.{ℕ, ◌≤◌, ◌<◌}
use borrow.Author.Tests.{lt-leb}
use lib.Dec.{ltb}
use lib.ListN.{length, get_or}
use mathlib.Core.Bool.{cond}
use mathlib.Core.List.{List}
use mathlib.Core.Path.{◌≡◌, refl, ◌∙◌, ap, ap₂, subst⁻¹}
use Rattle.clock.specs.Clock.{moment}
use Rattle.counting.proofs.PlacesLaws.{places_same}
use Rattle.finish.proofs.ListLaws.{list_shows_or, finish_told}
use Rattle.finish.specs.Finish.{Finish, finished_at, finish_list, finish_number, finish_of, is_open}
use Rattle.moments.specs.Moments.{history, postponed_by}
use Rattle.sizes.specs.Sizes.{most_servers, open_job}
use Rattle.summary.proofs.SummaryLaws.{finished_same, responses_same}
use Rattle.summary.specs.Summary.{arrived_of, blank, finishes, interrupted_of, summary_by, summary_of, summaries}
use Rattle.summary.specs.declared.Response.{Response}
use Rattle.summary.specs.declared.Summary.{Summary}
use Rattle.workfile.specs.Work.{Work}
use Rattle.records.specs.Records.{finish_in, records_of}

-- Of a work whose jobs finish after they came, the list that its run leaves of one with a place for each job, and the counts of its run.
module _ (w : Work) (ends list : List ℕ) (long : w.arrivals ≤ length ends) (short : w.horizon.tick < open_job)
    (after : (k t : ℕ) → k < w.arrivals → finishes w k ≡ finished_at (moment t) → (w.arrival k).moment.tick < t)
    (early : (k : ℕ) → k < w.arrivals → (w.arrival k).moment.tick < open_job)
    (left : list ≡ finish_list w.arrivals (finishes w) ends) where
  shown : (k : ℕ) → k < w.arrivals → get_or list k open_job ≡ finish_number (finishes w k)
  shown k b = ap (λ (l : List ℕ). get_or l k open_job) left ∙ list_shows_or open_job w.arrivals (finishes w) ends k b long

  -- what is shown is after the job came
  shown_after : (k : ℕ) → k < w.arrivals → (w.arrival k).moment.tick < get_or list k open_job
  shown_after k b = subst⁻¹ (λ (n : ℕ). (w.arrival k).moment.tick < n) (shown k b) (go (finishes w k) refl)
    where
      go : (f : Finish) → finishes w k ≡ f → (w.arrival k).moment.tick < finish_number f
      go is_open e = early k b
      go (finished_at t) e = after k t.tick b e

  -- the list tells the finish of each job
  finish_in_is : (k : ℕ) → k < w.arrivals → finish_in w list k ≡ finishes w k
  finish_in_is k b =
      rw (lt-leb (get_or list k open_job) (w.arrival k).moment.tick (shown_after k b))
      (ap finish_of (shown k b) ∙ finish_told (history w) _ _ w.horizon.tick short)

  pub records_of_run : (postponed interrupted : List ℕ)
      → ((i : ℕ) → i < most_servers → get_or postponed i 0 ≡ postponed_by w i w.horizon.tick)
      → ((i : ℕ) → i < most_servers → get_or interrupted i 0 ≡ interrupted_of w i)
      → records_of w list postponed interrupted ≡ summaries w
  unfolding records_of summaries summary_of
  records_of_run postponed interrupted p q =
      places_same most_servers _ _ (λ i b. ap (λ (s : Summary). cond (ltb i w.table.count) s blank) (same i b))
    where
      same : (i : ℕ) → i < most_servers
          → summary_by w (finish_in w list) (get_or postponed i 0) (get_or interrupted i 0) i ≡ summary_of w i
      same i b =
          rw (p i b, q i b)
          (ap₂ (λ (n : ℕ) (r : Response). record { arrived = arrived_of w i; finished = n; postponed = postponed_by w i w.horizon.tick; interrupted = interrupted_of w i; response = r })
          (finished_same w (finish_in w list) (finishes w) finish_in_is i)
          (responses_same w (finish_in w list) (finishes w) finish_in_is i))
