-- The summary of a run (document 01, "One moment of the clock"): "an array of 64 records handed back whole, one per server, blank from n
-- on: arrived, finished, postponed, interrupted, and the response."
use Rattle.std.specs.Prelude.{ℕ, zero, suc, eqb, ltb, length, Bool, cond, ◌&&◌, List, [], ◌∷◌, ◌++◌}
use Rattle.clock.specs.Clock.{ticks, until}
use Rattle.counting.specs.Count.{count}
use Rattle.counting.specs.Places.{places}
use Rattle.counting.specs.Totals.{total, longest}
use Rattle.finish.specs.Finish.{Finish, is_open, finished_at, finish, is_job}
use Rattle.history.specs.Choice.{is_for_another}
use Rattle.moments.specs.Moments.{history, postponed_by, waiting_at}
use Rattle.sizes.specs.Sizes.{most_servers}
use Rattle.trace.specs.Ticks.{end_of, sum_over}
use Rattle.trace.specs.Trace.{trace}
use Rattle.trace.specs.declared.Segment.{Segment}
use Rattle.workfile.specs.Work.{Work}
use Rattle.summary.specs.declared.Response.{Response}
use Rattle.summary.specs.declared.Response.TheVariants.{Absent, Over}
use Rattle.summary.specs.declared.Summary.{Summary}

-- The run of a work to its horizon: its trace, and the finish of each job.
abbrev pub trace_of : Work → List Segment
trace_of w = trace (history w) w.horizon.tick

abbrev pub finishes : Work → ℕ → Finish
finishes w k = finish w (history w) w.horizon.tick k

-- "A blank record has every count 0 and the response absent."
abbrev pub blank : Summary
blank = record { arrived = 0; finished = 0; postponed = 0; interrupted = 0; response = Absent }

-- "A job's response is finish minus arrival moment"; an open job has none
abbrev pub response_of : Work → ℕ → Finish → List ℕ
response_of w k is_open = []
response_of w k (finished_at t) = (until (w.arrival k).moment t).ticks ∷ []

-- "either absent, when nothing finished, or a total and a longest"
unfoldable pub response_in : List ℕ → Response
response_in [] = Absent
response_in (r ∷ more) = Over (ticks (total (r ∷ more))) (ticks (longest (r ∷ more)))

unfoldable pub arrived_of : Work → ℕ → ℕ
arrived_of w i = count w.arrivals (is_job w i)

-- Of a work and the finish of each of its jobs, server i:
module _ (w : Work) (f : ℕ → Finish) (i : ℕ) where
  -- the responses of its "finished jobs alone", among the first k arrivals, in order
  unfoldable pub responses_of : ℕ → List ℕ
  responses_of zero = []
  responses_of (suc k) = responses_of k ++ cond (is_job w i k) (response_of w k (f k)) []

  -- how many have finished
  unfoldable pub finished_of : ℕ
  finished_of = length (responses_of w.arrivals)

  -- their total and longest
  unfoldable pub responses : Response
  responses = response_in (responses_of w.arrivals)

-- how many segments of a trace pass a test
unfoldable pub how_many : (Segment → Bool) → List Segment → ℕ
how_many p = sum_over (λ s. cond (p s) 1 0)

-- whether a segment of server i that ends at t counts as interrupted (document 02, W-201): it "ends before N with work of its server
-- waiting", looked at before the arrivals of t, "and the very next tick goes to another server"
abbrev pub interrupted_at : Work → ℕ → ℕ → Bool
interrupted_at w i t = ltb t w.horizon.tick && ltb 0 (waiting_at w i t) && is_for_another i (history w t)

-- how many segments of server i do
unfoldable pub interrupted_of : Work → ℕ → ℕ
interrupted_of w i = how_many (λ s. eqb s.server i && interrupted_at w i (end_of s).tick) (trace_of w)

-- the record of server i, by the finish of each job and by how often it was postponed and interrupted
abbrev pub summary_by : Work → (ℕ → Finish) → (postponed interrupted : ℕ) → ℕ → Summary
summary_by w f p q i =
    record { arrived = arrived_of w i; finished = finished_of w f i; postponed = p; interrupted = q; response = responses w f i }

-- of a work's run to its horizon
unfoldable pub summary_of : Work → ℕ → Summary
summary_of w i = summary_by w (finishes w) (postponed_by w i w.horizon.tick) (interrupted_of w i) i

-- "64 records handed back whole, one per server, blank from n on"
abbrev pub per_server : Work → (ℕ → Summary) → List Summary
per_server w f = places most_servers (λ i. cond (ltb i w.table.count) (f i) blank)

unfoldable pub summaries : Work → List Summary
summaries w = per_server w (summary_of w)
