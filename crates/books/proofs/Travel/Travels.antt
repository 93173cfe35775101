-- A run from event to event: what holds of it between two events, where it stands and in its book.
use Prim.Native.Nat.{ℕ, ◌+◌, ◌≤◌}
use borrow.Author.Tests.{eq-eqb}
use lib.ListN.{length, replicate, get_or-replicate}
use mathlib.Core.List.{List}
use mathlib.Core.Path.{◌≡◌, refl, sym, ◌∙◌, ap}
use native.Mathlib.Omega.{arith}
use Rattle.clock.specs.Clock.{last_tick}
use Rattle.dispatcher.specs.Pick.{server_at}
use Rattle.dispatcher.specs.Start.{at_start}
use Rattle.finish.specs.Finish.{is_open, finish, finish_list}
use Rattle.judgement.proofs.FitLaws.{Fit}
use Rattle.moments.specs.Moments.{at_moment, history}
use Rattle.server.proofs.PassedOverLaws.{idle_passed_over}
use Rattle.sizes.specs.Sizes.{most_servers}
use Rattle.workfile.specs.Work.{Work, work}
use Rattle.books.specs.declared.Current.{Current}
use Rattle.books.specs.declared.JobLines.{JobLines}
use Rattle.books.proofs.Accepted.{Accepted, next_stop}
use Rattle.books.proofs.Book.{Run, lent_in, Here, here, Book, book, turns_of, JobBook, job_book, segment_book, with_segments, with_tree}
use Rattle.books.proofs.Jobs.FinishList.{finishes_again}
use Rattle.books.proofs.Jobs.JobBooks.{Jobs, jobs_start, jobs_later}
use Rattle.books.proofs.Jobs.Lined.{Lined}
use Rattle.books.proofs.Stretches.Interruptions.{interruptions_start}
use Rattle.books.proofs.Stretches.Segmented.{at_rest, segmented_start}
use Rattle.books.proofs.Stretches.Segments.{segments_lent}
use Rattle.books.proofs.Travel.ArrivalTaken.{Taking}
use Rattle.books.proofs.Travel.Kept.{Kept, counts_start}
use Rattle.books.proofs.Travel.Stands.{stands_start, start_waits_none}
use Rattle.books.proofs.Tree.Keys.{key_passed_over, Keyed}
use Rattle.books.specs.declared.WinnerTree.{WinnerTree}
use Rattle.books.proofs.Tree.Winners.{tree_same, root_of, Enough, winners_same}

-- All that is kept, not behind the horizon, and the winner tree holds the servers' keys.
pub record Travels (r : Run) (h : Here) (b : Book) : Type 0 where
  pub kept : Kept r h b
  pub horizon : h.t ≤ r.work.horizon.tick
  pub keyed : Keyed b.turns.tree h.dispatcher

-- It is on its way to `until`, and knows how far it goes at most without an arrival, and what the root of its tree holds.
pub record OnTheWay (r : Run) (h : Here) (b : Book) (until next root : ℕ) : Type 0 where
  pub travels : Travels r h b
  pub by : h.t ≤ until
  pub next_is : next ≡ next_stop r.work until h.taken
  pub root_is : root ≡ root_of b.turns.tree

-- What a run may rely on that goes on to `until`: its file was accepted, and the finish list is long enough.
pub record MayTravel (file : List ℕ) (until : ℕ) (r : Run) (h : Here) (b : Book) : Type 0 where
  pub accepted : Accepted file
  pub long : (work file).arrivals ≤ length r.finishes
  pub ahead : h.t ≤ until
  pub in_time : until ≤ (work file).horizon.tick
  pub travels : Travels r h b

-- the book at the start
abbrev pub start_book : ℕ → JobLines → List ℕ → List ℕ → Book
start_book leaves lines list finishes =
    book (turns_of (tree_same leaves last_tick) (replicate most_servers 0) (replicate most_servers 0)) (segment_book list at_rest)
    (job_book lines finishes)

-- at the start every server is idle
start_keyed : (w : Work) {leaves : ℕ} → Enough w.table.count leaves → Keyed (tree_same leaves last_tick) (at_moment w 0)
unfolding at_moment at_start
start_keyed w {leaves} e =
    record {
      winners = winners_same leaves last_tick e.some e.few e.pairs;
      enough = e.enough;
      keys = λ i b.
          get_or-replicate 128 (leaves + i) last_tick 0 (omega (arith, e.few))
          ∙ sym (key_passed_over (server_at (at_moment w 0) i) i (idle_passed_over (server_at (at_moment w 0) i) (eq-eqb _ _ (start_waits_none w i))));
    }

-- with the finish list as it is when every job is open, and the jobs lined up
pub travels_start : {w : Work} {leaves : ℕ} (list finishes : List ℕ) {lines : JobLines} → Fit w (length finishes) → Enough w.table.count leaves
    → finishes ≡ finish_list w.arrivals (λ k. is_open) finishes → Lined w 0 lines.job lines.behind
    → lines.left ≡ replicate most_servers 0
    → Travels (lent_in w 0 at_rest list finishes) (here 0 0 (at_moment w 0)) (start_book leaves lines list finishes)
travels_start {w} list finishes fit leaves opened lined left =
    record {
      kept =
          record {
            stands = stands_start w;
            jobs = jobs_start fit opened lined left;
            counts = counts_start w;
            segmented = segmented_start w list finishes;
            interruptions = interruptions_start w;
          };
      horizon = omega arith;
      keyed = start_keyed w leaves;
    }

-- the arrivals of a moment are taken: none at first
pub taking_none : {r : Run} {h : Here} {b : Book} {until next root : ℕ} → OnTheWay r h b until next root
    → Taking r.work until h h b.turns.tree next root
taking_none x =
    record {
      same_moment = refl;
      stands = x.travels.kept.stands;
      keyed = x.travels.keyed;
      later = omega arith;
      next_is = x.next_is;
      root_is = x.root_is;
    }

-- and then those that are
pub travels_taking : {r : Run} {h k : Here} {b : Book} {tree : WinnerTree} {until next root : ℕ} → Travels r h b
    → Taking r.work until h k tree next root → Travels r k (with_tree b tree)
travels_taking v g =
    record {
      kept =
          record {
            stands = g.stands;
            jobs = rw g.same_moment (jobs_later g.later v.kept.jobs);
            counts = rw g.same_moment v.kept.counts;
            segmented = rw g.same_moment v.kept.segmented;
            interruptions = v.kept.interruptions;
          };
      horizon = omega (arith, g.same_moment, v.horizon);
      keyed = g.keyed;
    }

-- the job of a server is opened
pub travels_jobs : {r : Run} {h : Here} {b : Book} {jobs : JobBook} → Travels r h b → Jobs r h.t h.taken jobs
    → Travels r h (book b.turns b.segments jobs)
travels_jobs v jobs =
    record {
      kept = record { stands = v.kept.stands; jobs = jobs; counts = v.kept.counts; segmented = v.kept.segmented; interruptions = v.kept.interruptions };
      horizon = v.horizon;
      keyed = v.keyed;
    }

-- A run that goes on with another list, its count from 0: what had ended before is seen.
abbrev pub counted_anew : Current → Current
counted_anew c = record { start = c.start; server = c.server; deadline = c.deadline; waits = c.waits; count = 0 }

pub travels_again : {r : Run} {h : Here} {b : Book} (another : List ℕ) → Travels r h b
    → Travels (lent_in r.work h.t b.segments.current another b.jobs.finishes) h
    (with_segments b (segment_book another (counted_anew b.segments.current)))
travels_again {r} {h} {b} another v =
    let w = r.work in
    let s = v.kept.segmented in
    let x = v.kept.jobs in
    record {
      kept =
          record {
            stands = v.kept.stands;
            jobs =
                record {
                  job_places = x.job_places;
                  left_places = x.left_places;
                  each = x.each;
                  follows = x.follows;
                  finishes_is =
                      x.finishes_is
                      ∙ sym (finishes_again w.arrivals (finish w (history w) h.t) (finish w (history w) h.t) r.finishes)
                      ∙ ap (finish_list w.arrivals (finish w (history w) h.t)) (sym x.finishes_is);
                };
            counts = v.kept.counts;
            segmented =
                record {
                  stretch = s.stretch;
                  segments = segments_lent w h.t b.segments.current another b.jobs.finishes;
                  few = omega arith;
                  waiting = s.waiting;
                  alike = s.alike;
                };
            interruptions = v.kept.interruptions;
          };
      horizon = v.horizon;
      keyed = v.keyed;
    }
