-- What a run keeps as it goes from event to event, and where it stands.
use Prim.Native.Nat.{ℕ}
use mathlib.Core.List.{List}
use mathlib.Core.Path.{◌≡◌, ◌∙◌, ap₂}
use Rattle.clock.specs.declared.Length.{Length}
use Rattle.dispatcher.specs.declared.Dispatcher.{Dispatcher}
use Rattle.moments.specs.Moments.{history}
use Rattle.trace.specs.Trace.{trace}
use Rattle.trace.specs.declared.Segment.{Segment}
use Rattle.workfile.specs.Work.{Work}
use Rattle.books.specs.declared.Current.{Current}
use Rattle.books.specs.declared.JobLines.{JobLines}
use Rattle.books.specs.declared.Standing.{Standing}
use Rattle.books.specs.declared.Turns.{Turns}
use Rattle.books.specs.declared.WinnerTree.{WinnerTree}

-- of segments: the lent list, and the stretch that the run is in
pub record SegmentBook : Type 0 where
  pub list : List ℕ
  pub current : Current

-- of jobs: those of each server, and the lent list of finishes
pub record JobBook : Type 0 where
  pub lines : JobLines
  pub finishes : List ℕ

-- all of it, with what it keeps of turns
pub record Book : Type 0 where
  pub turns : Turns
  pub segments : SegmentBook
  pub jobs : JobBook

-- each from the arrays and lists that the code has
abbrev pub segment_book : List ℕ → Current → SegmentBook
segment_book list current = record { list = list; current = current }

abbrev pub turns_of : WinnerTree → List ℕ → List ℕ → Turns
turns_of tree postponed interrupted = record { tree = tree; postponed = postponed; interrupted = interrupted }

abbrev pub lines_with : JobLines → (job left : List ℕ) → JobLines
lines_with lines job left = record { job = job; left = left; behind = lines.behind }

abbrev pub job_book : JobLines → List ℕ → JobBook
job_book lines finishes = record { lines = lines; finishes = finishes }

abbrev pub book : Turns → SegmentBook → JobBook → Book
book turns segments jobs = record { turns = turns; segments = segments; jobs = jobs }

-- with other segments, with another tree, or with other work of the current stretch's server
abbrev pub with_segments : Book → SegmentBook → Book
with_segments b segments = book b.turns segments b.jobs

abbrev pub with_tree : Book → WinnerTree → Book
with_tree b tree = book (turns_of tree b.turns.postponed b.turns.interrupted) b.segments b.jobs

abbrev pub with_waits : SegmentBook → Length → SegmentBook
with_waits b waits =
    segment_book b.list
    (record {
      start = b.current.start;
      server = b.current.server;
      deadline = b.current.deadline;
      waits = waits;
      count = b.current.count;
    })

-- two books that are the same in each part are the same
pub segments_same : {a b : SegmentBook} → a.list ≡ b.list → a.current ≡ b.current → a ≡ b
segments_same list current = ap₂ segment_book list current

pub jobs_same : {a b : JobBook} → a.lines.job ≡ b.lines.job → a.lines.left ≡ b.lines.left → a.lines.behind ≡ b.lines.behind
    → a.finishes ≡ b.finishes → a ≡ b
jobs_same {a} {b} job left behind finishes =
    ap₂ (λ (x y : List ℕ). job_book (lines_with a.lines x y) a.finishes) job left
    ∙ ap₂ (λ (x y : List ℕ). job_book (record { job = b.lines.job; left = b.lines.left; behind = x }) y) behind finishes

-- A run: its work, and the two lists as they were lent, at which moment, and the segments that had ended before.
pub record Run : Type 0 where
  pub work : Work
  pub lent_at : ℕ
  pub seen : List Segment
  pub list : List ℕ
  pub finishes : List ℕ

-- whose lists are lent at moment t, in the stretch c
abbrev pub lent_in : Work → ℕ → Current → List ℕ → List ℕ → Run
lent_in w t c list finishes =
    record { work = w; lent_at = t; seen = trace (history w) c.start.tick; list = list; finishes = finishes }

-- Where it stands: the moment, how many arrivals are taken, and the dispatcher.
pub record Here : Type 0 where
  pub t : ℕ
  pub taken : ℕ
  pub dispatcher : Dispatcher

abbrev pub here : ℕ → ℕ → Dispatcher → Here
here t taken dispatcher = record { t = t; taken = taken; dispatcher = dispatcher }

abbrev pub standing_at : Standing → Here
standing_at s = here s.moment.tick s.taken s.dispatcher
