-- The text of the day report (document 01, "The day report").
use Rattle.std.specs.Prelude.{ℕ, length, take, List, [], ◌∷◌, ◌++◌}
use Rattle.arrival.specs.declared.Arrival.{Arrival}
use Rattle.booking.specs.Admission.{shares}
use Rattle.clock.specs.Clock.{until}
use Rattle.clock.specs.declared.Moment.{Moment}
use Rattle.finish.specs.Finish.{Finish, is_open, finished_at}
use Rattle.judgement.specs.Judgement.{judged}
use Rattle.refusal.specs.Refusals.{Said, refused, gave}
use Rattle.sizes.specs.Sizes.{most_arrivals, most_shown}
use Rattle.summary.specs.Summary.{trace_of, finishes, summary_of}
use Rattle.summary.specs.declared.Response.TheVariants.{Absent, Over}
use Rattle.summary.specs.declared.Response.{Response}
use Rattle.summary.specs.declared.Summary.{Summary}
use Rattle.page.specs.Page.{each}
use Rattle.text.specs.Line.{Field, word, number, line}
use Rattle.trace.specs.declared.Segment.{Segment}
use Rattle.workfile.specs.Work.{Work, work}

-- "A refused file prints one line, `refused`, number, place."
abbrev pub refused_line : ℕ → ℕ → List ℕ
refused_line n place = line "refused" (number n ∷ number place ∷ [])

-- "`admitted` sum of shares `of` H"
abbrev pub admitted_line : ℕ → ℕ → List ℕ
admitted_line sum frame = line "admitted" (number sum ∷ word "of" ∷ number frame ∷ [])

-- "a `segment` line for each shown segment (start, length, server, deadline)"
abbrev pub segment_line : Segment → List ℕ
segment_line s =
    line "segment"
    (number s.start.tick ∷ number s.length.ticks ∷ number s.server ∷ number s.deadline.tick ∷ [])

unfoldable pub segment_lines : List Segment → List ℕ
segment_lines [] = []
segment_lines (s ∷ more) = segment_line s ++ segment_lines more

-- "`segments` count `shown` count"
abbrev pub segments_line : ℕ → ℕ → List ℕ
segments_line count shown = line "segments" (number count ∷ word "shown" ∷ number shown ∷ [])

-- "finish, response; an open job has `open -` in the last two"; a response is "finish minus arrival moment"
abbrev pub finish_fields : Moment → Finish → List Field
finish_fields came is_open = word "open" ∷ word "-" ∷ []
finish_fields came (finished_at t) = number t.tick ∷ number (until came t).ticks ∷ []

-- "a `job` line for each arrival (number, server, moment, finish, response ..)"
abbrev pub job_with : Arrival → ℕ → Finish → List ℕ
job_with a k f = line "job" (number k ∷ number a.server ∷ number a.moment.tick ∷ finish_fields a.moment f)

unfoldable pub job_line : Work → ℕ → List ℕ
job_line w k = job_with (w.arrival k) k (finishes w k)

-- "`total` and `longest` show `-` when nothing finished."
abbrev pub total_field : Response → Field
total_field Absent = word "-"
total_field (Over total longest) = number total.ticks

abbrev pub longest_field : Response → Field
longest_field Absent = word "-"
longest_field (Over total longest) = number longest.ticks

-- "a `server` line for each server", with the words of File P's report in their order
unfoldable pub server_line : ℕ → Summary → List ℕ
server_line i s =
    line "server"
    (number i ∷ word "arrived" ∷ number s.arrived ∷ word "finished" ∷ number s.finished
    ∷ word "total" ∷ total_field s.response ∷ word "longest" ∷ longest_field s.response
    ∷ word "postponed" ∷ number s.postponed ∷ word "interrupted" ∷ number s.interrupted ∷ [])

-- the lines of an accepted file whose trace is this
abbrev pub accepted_report : Work → List Segment → List ℕ
accepted_report w segments =
    admitted_line (shares w.frame w.table) w.frame.ticks
    ++ segment_lines (take most_shown segments)
    ++ segments_line (length segments) (length (take most_shown segments))
    ++ each w.arrivals (job_line w)
    ++ each w.table.count (λ i. server_line i (summary_of w i))

abbrev pub report_of : Said (Unit {0}) → Work → List ℕ
report_of (refused n place) w = refused_line n place
report_of (gave u) w = accepted_report w (trace_of w)

-- The day report of a file. The run is lent a finish list of 4,096 places, so that 9 cannot occur.
unfoldable pub day_report : List ℕ → List ℕ
day_report file = report_of (judged file most_arrivals) (work file)

-- room for any report
abbrev pub most_bytes : ℕ
most_bytes = 262_144
