-- How the 64 records grow by one job, and take their counts.
use Rattle.std.specs.Prelude.{ℕ, ◌<◌, ◌+◌, ◌≤◌, eqb, leb, ltb, get_or, length, Bool, cond, ◌||◌, List}
use Rattle.clock.specs.Clock.{last_tick, until}
use Rattle.clock.specs.declared.Moment.{Moment}
use Rattle.counting.specs.Count.{count}
use Rattle.counting.specs.Places.{places}
use Rattle.finish.specs.Finish.{Finish, is_open, finished_at, finish_of, is_job}
use Rattle.sizes.specs.Sizes.{most_servers, open_job}
use Rattle.summary.proofs.SummaryLaws.{total_of, with_response}
use Rattle.summary.specs.Summary.{blank, response_in, responses_of}
use Rattle.summary.specs.declared.Response.{Response}
use Rattle.summary.specs.declared.Summary.{Summary}
use Rattle.workfile.specs.Work.{Work}
use Rattle.records.specs.Records.{finish_in}

-- the record of so many jobs, of which so many have finished, and of those with these responses, and with these counts
abbrev pub counted : (jobs finished postponed interrupted : ℕ) → Response → Summary
counted jobs finished postponed interrupted r =
    record { arrived = jobs; finished = finished; postponed = postponed; interrupted = interrupted; response = r }

-- a record with these two counts
abbrev pub with_counts : Summary → ℕ → ℕ → Summary
with_counts s postponed interrupted = counted s.arrived s.finished postponed interrupted s.response

-- whether a number of the list is no finish of a job that came at a moment
abbrev pub is_open_at : Moment → ℕ → Bool
is_open_at came n = leb n came.tick || eqb n open_job

-- the finish of a job that came at a moment, by the number that the list has for it
abbrev pub finish_by : Moment → ℕ → Finish
finish_by came n = cond (leb n came.tick) is_open (finish_of n)

-- a record with one job more: an open one has arrived, and any other has finished too
unfoldable pub with_job : Summary → Moment → Finish → Summary
with_job s came is_open = counted (s.arrived + 1) s.finished s.postponed s.interrupted s.response
with_job s came (finished_at t) =
    counted (s.arrived + 1) (s.finished + 1) s.postponed s.interrupted (with_response s.response (until came t).ticks)

-- a record whose numbers 64 bits still hold with one job more, of at most r ticks
pub record Roomy (s : Summary) (r : ℕ) : Type 0 where
  pub arrived : s.arrived < last_tick
  pub finished : s.finished < last_tick
  pub total : total_of s.response + r ≤ last_tick

-- so many jobs, and the responses of those of them that have finished; no counts yet
abbrev pub over_jobs : ℕ → List ℕ → Summary
over_jobs jobs lasted = counted jobs (length lasted) 0 0 (response_in lasted)

-- what the first k arrivals of a work and a list of finishes tell of server i
unfoldable pub record_up_to : Work → List ℕ → ℕ → ℕ → Summary
record_up_to w list k i =
    cond (ltb i w.table.count) (over_jobs (count k (is_job w i)) (responses_of w (finish_in w list) i k)) blank

unfoldable pub records_up_to : Work → List ℕ → ℕ → List Summary
records_up_to w list k = places most_servers (record_up_to w list k)

-- the records, those of the first n servers with the counts that were kept for them
unfoldable pub filled : ℕ → List ℕ → List ℕ → List Summary → List Summary
filled n postponed interrupted records =
    places most_servers (λ i. cond (ltb i n)
    (with_counts (get_or records i blank) (get_or postponed i 0) (get_or interrupted i 0))
    (get_or records i blank))
