-- Document 01, "Checked by hand": "Those marked * are proved as one list under one statement about the definitions".
use Prim.Native.Char.{code}
use Rattle.std.specs.Prelude.{ℕ, List, [], ◌∷◌, ◌++◌, ◌≡◌, codes}
use Prim.Native.String.{String}
use Rattle.booking.specs.Admission.{shares}
use Rattle.booking.specs.Share.{booked}
use Rattle.clock.specs.Clock.{moment, ticks}
use Rattle.demand_3.specs.Files.{got_from}
use Rattle.finish.specs.Finish.{Finish, is_open, finished_at}
use Rattle.judgement.specs.Judgement as judgement
use Rattle.opening.specs.Opening.{listed, table_judged}
use Rattle.refusal.specs.Refusals.{Said, refused, accepted}
use Rattle.report.specs.DayReport.{day_report}
use Rattle.server.specs.Moves.{woken}
use Rattle.server.specs.Server.{fresh, holding}
use Rattle.server.specs.declared.Server.{Server}
use Rattle.summary.specs.Summary.{trace_of, finishes, summary_of}
use Rattle.summary.specs.declared.Response.TheVariants.{Absent}
use Rattle.summary.specs.declared.Summary.{Summary}
use Rattle.trace.specs.Written.{segment_of}
use Rattle.trace.specs.declared.Segment.{Segment}
use Rattle.workfile.specs.Work.{work}

pub data Example : Type 0 where
  -- "Waking, as (Q, T, c, d, moment)", and the d and c that it leads to
  waking : (Q T c d t : ℕ) → (d' c' : ℕ) → Example
  -- a frame and a table of Q, T pairs: the sum of the shares
  adding : (H : ℕ) → (table : List ℕ) → (sum : ℕ) → Example
  -- and the answer to it
  judging : (H : ℕ) → (table : List ℕ) → Said (Unit {0}) → Example
  -- a file, by its numbers: that it is accepted with a finish list of so many places, its whole trace, the finish of a job and the
  -- record of a server
  accepting : (file : List ℕ) → (places : ℕ) → Example
  tracing : (file : List ℕ) → (segments : List Segment) → Example
  finishing : (file : List ℕ) → (job : ℕ) → Finish → Example
  summing : (file : List ℕ) → (server : ℕ) → Summary → Example
  -- the ticks that a server gets from moment a on under deadlines no later than b
  getting : (file : List ℕ) → (server a b : ℕ) → (got : ℕ) → Example
  -- and its day report, whole
  reporting : (file : List ℕ) → (lines : List String) → Example

-- an idle server
abbrev pub idle_server : (Q T c d : ℕ) → Server
idle_server Q T c d = holding (fresh (booked Q T)) (ticks c) (moment d) (ticks 0)

-- the bytes of a file of small numbers, "low byte first"
abbrev pub file_of : List ℕ → List ℕ
file_of [] = []
file_of (n ∷ more) = n ∷ 0 ∷ 0 ∷ 0 ∷ file_of more

-- "File P: H 10, N 12, servers (2, 5) and (3, 5), arrivals (0, 0, 5), (0, 1, 3), (6, 1, 2), no gaps."
abbrev pub file_p : List ℕ
file_p = 10 ∷ 12 ∷ 2 ∷ 24 ∷ 3 ∷ 40 ∷ 2 ∷ 5 ∷ 3 ∷ 5 ∷ 0 ∷ 0 ∷ 5 ∷ 0 ∷ 1 ∷ 3 ∷ 6 ∷ 1 ∷ 2 ∷ []

-- "File Q: H 5, N 4, server (1, 5), arrival (1, 0, 5)"
abbrev pub file_q : List ℕ
file_q = 5 ∷ 4 ∷ 1 ∷ 24 ∷ 1 ∷ 32 ∷ 1 ∷ 5 ∷ 1 ∷ 0 ∷ 5 ∷ []

-- the bytes of lines as they are printed
abbrev pub printed : List String → List ℕ
printed [] = []
printed (l ∷ more) = codes l ++ code "\n" ∷ printed more

-- what an example says of the definitions
abbrev pub Holds : Example → Type 0
Holds (waking Q T c d t d' c') = woken (idle_server Q T c d) (moment t) ≡ idle_server Q T c' d'
Holds (adding H table sum) = shares (ticks H) (listed table) ≡ sum
Holds (judging H table answer) = table_judged table (ticks H) ≡ answer
Holds (accepting file places) = judgement.judged (file_of file) places ≡ accepted
Holds (tracing file segments) = trace_of (work (file_of file)) ≡ segments
Holds (finishing file job finish) = finishes (work (file_of file)) job ≡ finish
Holds (summing file server record') = summary_of (work (file_of file)) server ≡ record'
Holds (getting file server a b got) = got_from (work (file_of file)) server a (moment b) ≡ got
Holds (reporting file lines) = day_report (file_of file) ≡ printed lines

abbrev pub AllHold : List Example → Type 0
AllHold [] = Unit {0}
AllHold (e ∷ es) = Holds e × AllHold es

abbrev pub checked_by_hand : List Example
checked_by_hand =
    -- renews to d 9, c 2
    waking 2 7 0 0 2 9 2
    -- keeps, as 7 < 12 (source document 000)
    ∷ waking 2 7 1 23 17 23 1
    -- renews to d 13, c 2, as 6 = 6
    ∷ waking 2 6 1 10 7 13 2
    -- keeps, as 6 < 8
    ∷ waking 2 6 1 10 6 10 1
    -- renews to d 15
    ∷ waking 2 6 1 5 9 15 2
    -- renews to d 6
    ∷ waking 2 6 0 0 0 6 2
    -- "(1, 4), (3, 10), (9, 20) is 5 + 6 + 9 = 20, admitted"
    ∷ adding 20 (1 ∷ 4 ∷ 3 ∷ 10 ∷ 9 ∷ 20 ∷ []) 20
    ∷ judging 20 (1 ∷ 4 ∷ 3 ∷ 10 ∷ 9 ∷ 20 ∷ []) accepted
    -- "The last as (10, 20) is 21: refusal 5"
    ∷ adding 20 (1 ∷ 4 ∷ 3 ∷ 10 ∷ 10 ∷ 20 ∷ []) 21
    ∷ judging 20 (1 ∷ 4 ∷ 3 ∷ 10 ∷ 10 ∷ 20 ∷ []) (refused 5 0)
    -- "(1, 3): refusal 4"
    ∷ judging 20 (1 ∷ 3 ∷ []) (refused 4 0)
    -- "File P's segments and finishes"
    ∷ accepting file_p 3
    ∷ tracing file_p (segment_of 0 2 0 5 ∷ segment_of 2 3 1 5 ∷ segment_of 5 2 0 10 ∷ segment_of 7 2 1 11 ∷ segment_of 9 1 0 15 ∷ [])
    ∷ finishing file_p 0 (finished_at (moment 10))
    ∷ finishing file_p 1 (finished_at (moment 5))
    ∷ finishing file_p 2 (finished_at (moment 9))
    -- what demand 3 counts in those segments: server 0 gets 2 under deadlines up to 5, and 2 × 5 = 5 × 2 is all that it may; 4 up to 10 and
    -- up to 14, 5 up to 15; server 1, with no work waiting at 6, gets 2 from then on
    ∷ getting file_p 0 0 4 0
    ∷ getting file_p 0 0 5 2
    ∷ getting file_p 0 0 10 4
    ∷ getting file_p 0 0 14 4
    ∷ getting file_p 0 0 15 5
    ∷ getting file_p 1 6 11 2
    -- and its report
    ∷ reporting file_p
    ("admitted 10 of 10"
    ∷ "segment 0 2 0 5"
    ∷ "segment 2 3 1 5"
    ∷ "segment 5 2 0 10"
    ∷ "segment 7 2 1 11"
    ∷ "segment 9 1 0 15"
    ∷ "segments 5 shown 5"
    ∷ "job 0 0 0 10 10"
    ∷ "job 1 1 0 5 5"
    ∷ "job 2 1 6 9 3"
    ∷ "server 0 arrived 1 finished 1 total 10 longest 10 postponed 2 interrupted 2"
    ∷ "server 1 arrived 2 finished 2 total 8 longest 5 postponed 1 interrupted 0"
    ∷ [])
    -- File Q: "segments (1, 1, 0, 6), (2, 1, 0, 11), (3, 1, 0, 16), the job open, postponed 3, response absent"; "File Q's interrupted
    -- becomes 0" (document 02, W-201)
    ∷ accepting file_q 1
    ∷ tracing file_q (segment_of 1 1 0 6 ∷ segment_of 2 1 0 11 ∷ segment_of 3 1 0 16 ∷ [])
    ∷ finishing file_q 0 is_open
    ∷ summing file_q 0 (record { arrived = 1; finished = 0; postponed = 3; interrupted = 0; response = Absent })
    -- and its report, with an open job's line
    ∷ reporting file_q
    ("admitted 1 of 5"
    ∷ "segment 1 1 0 6"
    ∷ "segment 2 1 0 11"
    ∷ "segment 3 1 0 16"
    ∷ "segments 3 shown 3"
    ∷ "job 0 0 1 open -"
    ∷ "server 0 arrived 1 finished 0 total - longest - postponed 3 interrupted 0"
    ∷ [])
    -- "A 24-byte file with H 1, N 0, no servers, no arrivals, both offsets 24 gives `admitted 0 of 1` and `segments 0 shown 0`."
    ∷ reporting (1 ∷ 0 ∷ 0 ∷ 24 ∷ 0 ∷ 24 ∷ []) ("admitted 0 of 1" ∷ "segments 0 shown 0" ∷ [])
    ∷ []
