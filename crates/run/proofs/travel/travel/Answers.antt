-- `run::travel::travel` meets its promise: every job is open at first, and so the finishes that the run writes over them are all.
use Prim.Native.Nat.{ℕ, ◌≤◌}
use lib.ListN.{length, replicate, length-replicate}
use mathlib.Core.List.{List, []}
use mathlib.Core.Path.{◌≡◌, sym, ◌∙◌, ap, subst⁻¹}
use native.Mathlib.Omega.{arith}
use Rattle.books.proofs.Accepted.{arrivals_read, horizon_read, servers_read, fit_beside}
use Rattle.books.proofs.Book.{lent_in, standing_at, Book, book, turns_of, job_book, segment_book}
use Rattle.books.proofs.Jobs.FinishList.{finishes_again, finishes_length}
use Rattle.books.proofs.Travel.Travels.{Travels, travels_start}
use Rattle.books.proofs.Travel.WholeRun.{list_whole, count_whole, finishes_whole, postponed_whole, interrupted_all}
use Rattle.books.specs.declared.Standing.{Standing}
use Rattle.books.specs.declared.Turns.{Turns}
use Rattle.books.proofs.Tree.Winners.{tree_same, Enough, leaves_for, leaves_enough}
use Rattle.clock.specs.Clock.{last_tick}
use Rattle.clock.specs.declared.Moment.{Moment}
use Rattle.finish.specs.Finish.{is_open, finish_list}
use Rattle.judgement.proofs.FitLaws.{Fit}
use Rattle.sizes.specs.Sizes.{most_arrivals, most_servers}
use Rattle.summary.specs.Summary.{finishes}
use Rattle.trace.specs.Trace.{begun}
use Rattle.workfile.specs.Work.{Work, work}
use Rattle.run.proofs.travel.travel.Goals as goal
use Rattle.run.proofs.travel.travel.Goals.{After-from_start, After-to_moment-end}

pub open_all-requires : goal.open_all-requires
open_all-requires c = omega (arith, arrivals_read _ c.header_of-h.ensures, c.requires.file_in_bounds)

pub line_up-requires-clause-unlined : goal.line_up-requires-clause-unlined
line_up-requires-clause-unlined c =
    record {
      job_is = ap (replicate most_servers) (arrivals_read _ c.header_of-h.ensures);
      places = length-replicate {A = ℕ} most_arrivals 0;
    }

-- The work, the finish list as it was lent and behind `open_all`, and where the run stands at its start.
abbrev its : After-from_start → Work
its p = work p.args.file.now

abbrev ends : After-from_start → List ℕ
ends p = p.args.finishes.now

abbrev opened : After-from_start → List ℕ
opened p = p.open_all.new.finishes

abbrev from : After-from_start → Standing
from p = p.from_start.result

all_open : (p : After-from_start) → opened p ≡ finish_list (its p).arrivals (λ k. is_open) (ends p)
all_open p =
    p.open_all.ensures ∙ ap (λ (m : ℕ). finish_list m (λ k. is_open) (ends p)) (arrivals_read _ p.header_of-h.ensures)

-- to open every job once more changes nothing
open_again : (p : After-from_start) → opened p ≡ finish_list (its p).arrivals (λ k. is_open) (opened p)
open_again p =
    all_open p
    ∙ sym (finishes_again (its p).arrivals (λ k. is_open) (λ k. is_open) (ends p))
    ∙ ap (finish_list (its p).arrivals (λ k. is_open)) (sym (all_open p))

long : (p : After-from_start) → (its p).arrivals ≤ length (opened p)
long p =
    omega (arith, ap length (all_open p), finishes_length (its p).arrivals (ends p) (λ k. is_open), p.requires.file_in_bounds)

fit : (p : After-from_start) → Fit (its p) (length (opened p))
fit p = fit_beside (length (opened p)) p.requires.accepted.fit (long p)

-- its tree has leaves enough
enough : (p : After-from_start) → Enough (its p).table.count p.leaves_of.result
enough p =
    subst⁻¹ (Enough (its p).table.count) (p.leaves_of.ensures ∙ ap leaves_for (servers_read _ p.header_of-h.ensures))
    (leaves_enough (its p).table.count (fit p).servers)

-- the turns as they begin
abbrev turns : After-from_start → Turns
turns p = turns_of (tree_same p.leaves_of.result last_tick) (replicate most_servers 0) (replicate most_servers 0)

starts : (p : After-from_start)
    → Travels (lent_in (its p) (from p).moment.tick (from p).current p.args.list.now (opened p)) (standing_at (from p))
    (book (turns p) (segment_book p.args.list.now (from p).current) (job_book p.line_up.new.lines (opened p)))
starts p =
    let list = p.args.list.now in
    let lines = p.line_up in
    subst⁻¹
    (λ (s : Standing).
    Travels (lent_in (its p) s.moment.tick s.current list (opened p)) (standing_at s)
    (book (turns p) (segment_book list s.current) (job_book lines.new.lines (opened p))))
    p.from_start.ensures
    (travels_start list (opened p) (fit p) (enough p) (open_again p) lines.ensures.lined lines.ensures.left)

-- no segment had ended when the list was lent
none_seen : (p : After-from_start) → (lent_in (its p) (from p).moment.tick (from p).current p.args.list.now (opened p)).seen ≡ []
unfolding begun
none_seen p =
    ap (λ (s : Standing). (lent_in (its p) s.moment.tick s.current p.args.list.now (opened p)).seen) p.from_start.ensures

pub to_moment-end-requires : goal.to_moment-end-requires
to_moment-end-requires c =
    let p = (goal.at.to_moment-end-requires c).After-from_start in
    record {
      accepted = c.requires.accepted;
      long = long p;
      ahead = omega (arith, ap (λ (s : Standing). s.moment.tick) c.from_start.ensures);
      in_time = omega (arith, horizon_read _ c.header_of-h.ensures);
      travels = starts p;
    }

-- What the run leaves at the horizon.
abbrev left : After-to_moment-end → Book
left m =
    let l = m.to_moment-end.new in
    book l.turns (segment_book l.list m.to_moment-end.result.current) (job_book l.lines l.finishes)

came : (m : After-to_moment-end)
    → Travels (lent_in (work m.args.file.now) m.from_start.result.moment.tick m.from_start.result.current m.args.list.now m.open_all.new.finishes)
    (standing_at m.to_moment-end.result)
    (left m)
came m = m.to_moment-end.ensures.travels

at_end : (m : After-to_moment-end) → (work m.args.file.now).horizon.tick ≤ m.to_moment-end.result.moment.tick
at_end m =
    omega (arith, horizon_read _ m.header_of-h.ensures, ap (λ (t : Moment). t.tick) m.to_moment-end.ensures.moment_value)

-- what a run writes over the open jobs
again : (p : After-from_start)
    → finish_list (its p).arrivals (finishes (its p)) (opened p) ≡ finish_list (its p).arrivals (finishes (its p)) (ends p)
again p =
    ap (finish_list (its p).arrivals (finishes (its p))) (all_open p)
    ∙ finishes_again (its p).arrivals (finishes (its p)) (λ k. is_open) (ends p)

pub returns : goal.returns
returns c =
    let p = (goal.at.returns c).After-from_start in
    let m = (goal.at.returns c).After-to_moment-end in
    record {
      list_is = c.end_segment-segments.ensures.list_after ∙ list_whole {b = left m} (came m) (at_end m) (none_seen p);
      segments_is = c.end_segment-segments.ensures.value ∙ count_whole {b = left m} (came m) (at_end m) (none_seen p);
      finishes_is = finishes_whole {b = left m} (came m) (at_end m) ∙ again p;
      postponed_is = postponed_whole {b = left m} (came m) (at_end m);
      interrupted_is = interrupted_all {b = left m} (came m) (at_end m);
    }
