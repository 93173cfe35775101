-- An event in which a server runs: the one that is picked, its job being opened, goes for a spell up to a moment ahead.
use Prim.Native.Nat.{ℕ, suc, ◌+◌, ◌-◌, ◌≤◌, ◌<◌, min}
use lib.ListN.{length, get_or, set}
use mathlib.Core.Path.{◌≡◌, ◌∙◌, ap, subst, subst⁻¹}
use native.Mathlib.Omega.{arith}
use Rattle.clock.proofs.ClockLaws.{up_to_last_whole}
use Rattle.clock.specs.Clock.{moment, later, up_to_last}
use Rattle.clock.specs.declared.Length.{Length}
use Rattle.clock.specs.declared.Moment.{Moment}
use Rattle.dispatcher.specs.Moves.{standing}
use Rattle.dispatcher.specs.Pick.{server_at, Earliest}
use Rattle.judgement.proofs.FitLaws.{Fit}
use Rattle.server.specs.declared.Server.{Server}
use Rattle.sizes.specs.Sizes.{clock_end, most_servers}
use Rattle.books.specs.declared.Gone.{Gone}
use Rattle.books.specs.declared.JobLines.{JobLines}
use Rattle.books.specs.declared.Turns.{Turns}
use Rattle.books.proofs.Book.{Run, Here, here, Book, book, SegmentBook, JobBook, job_book}
use Rattle.books.proofs.Jobs.JobBooks.{Jobs}
use Rattle.books.proofs.Jobs.Jobs.{NextJob, job_waiting}
use Rattle.books.proofs.Jobs.Opened.{MayGoOn, Opened, Serves, WentOn}
use Rattle.books.proofs.Jobs.OpenedLaws.{serves, opened_jobs}
use Rattle.books.proofs.Spell.Planned.{MayGo}
use Rattle.books.proofs.Spell.PlannedLaws.{ranged_able, ranged_early}
use Rattle.books.proofs.Spell.SpellBooks.{Spelled}
use Rattle.books.proofs.Spell.SpellKeeps.{spell_went}
use Rattle.books.proofs.Spell.SpellLeaves.{SpellLeaves}
use Rattle.books.proofs.Travel.ArrivalTaken.{Taking, next_by}
use Rattle.books.proofs.Travel.BetweenEvents.{Ahead, clock_now, bounded, postponed_few, interrupted_few, finishes_long, picked_leaf, picked_server, picked_ranged, picked_waits, picked_charged}
use Rattle.books.proofs.Travel.Travels.{OnTheWay, Travels, travels_jobs}

-- when it is over, at moment t: it has taken some time; and with its job gone on by so much the run is on its way as before
pub record SpellOver (r : Run) (h : Here) (i until stop : ℕ) (t : Moment) (jobs : JobBook) (turns : Turns) (segments : SegmentBook) (g : Gone) : Type 0 where
  pub later : h.t < t.tick
  pub may_go_on : MayGoOn i g.gone.ticks t.tick jobs
  pub keeps : {after : JobBook} → WentOn i g.gone.ticks t.tick jobs after
      → OnTheWay r (here t.tick h.taken (standing h.dispatcher t (set h.dispatcher.servers i g.server))) (book turns segments after) until
      stop
      g.root

module _ {r : Run} {h : Here} {b : Book} (fit : Fit r.work (length r.finishes)) (v : Travels r h b) {i : ℕ}
    (pick : Earliest h.dispatcher h.dispatcher.count i) where
  abbrev s : Server
  s = server_at h.dispatcher i

  -- it has a place, and a job to open where nothing is left of one
  pub place : i < most_servers
  place = picked_server fit v pick

  pub picked_serves : Serves r.work i b.jobs.lines
  picked_serves = serves fit v.kept.stands v.kept.jobs place (picked_waits fit v pick)

  -- Once its job is opened, of which so much is left.
  module _ {lines : JobLines} {rest : ℕ} (o : Opened r.work i b.jobs.lines lines rest) where
    abbrev opened : JobBook
    opened = job_book lines b.jobs.finishes

    jobs_opened : Jobs r h.t h.taken opened × (0 < get_or lines.left i 0)
    jobs_opened = opened_jobs fit v.kept.stands v.kept.jobs place (picked_waits fit v pick) o

    its_work : get_or lines.left i 0 ≤ s.waiting.ticks
    its_work = job_waiting (jobs_opened.0.each i place) jobs_opened.1 (v.kept.stands.adds i)

    -- its job is one of the arrivals, and the one behind it is the server's next
    its_job : get_or lines.job i 0 < r.work.arrivals
    its_job = omega (arith, (jobs_opened.0.each i place).taken jobs_opened.1, v.kept.stands.count)

    behind_it : NextJob r.work i (suc (get_or lines.job i 0)) (get_or lines.behind (get_or lines.job i 0) 0)
    behind_it =
        subst (λ (n : ℕ). NextJob r.work n (suc (get_or lines.job i 0)) (get_or lines.behind (get_or lines.job i 0) 0))
        ((jobs_opened.0.each i place).own its_job)
        (jobs_opened.0.follows.behinds _ its_job)

    -- Up to a moment ahead it goes for as many ticks as its job and the time have.
    module _ {stop : ℕ} (ahead : Ahead r.work h stop) {room : Length} (room_is : room ≡ record { ticks = stop - h.t })
        {most : ℕ} (most_is : most ≡ min rest room.ticks) where
      reach : h.t + most ≤ stop
      reach = omega (arith, ap (λ (l : Length). l.ticks) room_is, ahead.some)

      some : 0 < most
      some = omega (arith, ap (λ (l : Length). l.ticks) room_is, ahead.some, o.rest_is, jobs_opened.1)

      clock_early : h.dispatcher.clock.tick < clock_end
      clock_early = omega (arith, clock_now fit v, ahead.some, ahead.in_time, fit.horizon)

      pub may_go : MayGo h.t i s most b.turns b.segments
      may_go =
          record {
            plans =
                record {
                  leaf = picked_leaf fit v pick;
                  able = ranged_able (picked_ranged fit v pick) clock_early;
                  early = ranged_early (picked_ranged fit v pick) clock_early;
                  some = some;
                  work = omega (arith, o.rest_is, its_work);
                  charged = picked_charged fit v pick;
                  time = omega (arith, reach, ahead.in_time, fit.horizon);
                };
            in_time = omega (arith, reach, ahead.in_time, fit.horizon);
            bounded = bounded fit v;
            few = postponed_few fit v i place;
            few_interrupted = interrupted_few fit v b.segments.current.server;
          }

      -- It has gone.
      module _ {turns : Turns} {segments : SegmentBook} {g : Gone} (leaves : SpellLeaves h.t i s most b.turns turns b.segments segments g) where
        spelled : Spelled r h (book b.turns b.segments opened) i most turns segments g
        spelled =
            record {
              pick = pick;
              some = jobs_opened.1;
              of_job = omega (arith, o.rest_is);
              ahead =
                  record {
                    some = omega (arith, some);
                    in_time = omega (arith, reach, ahead.in_time);
                    later = λ a l y. omega (arith, reach, ahead.later a l y);
                  };
              leaves = leaves;
            }

        gone_is : g.gone.ticks ≡ leaves.spell.gone.ticks
        gone_is = ap (λ (l : Length). l.ticks) leaves.gone_is

        ends : h.t + g.gone.ticks ≤ stop
        ends = omega (arith, gone_is, leaves.planned.gone_inside, reach)

        over : r.work.arrivals ≤ length r.finishes → {until root : ℕ} {from : Here}
            → Taking r.work until from h b.turns.tree stop root
            → SpellOver r h i until stop (moment (h.t + g.gone.ticks)) opened turns segments g
        over long way =
            record {
              later = omega (arith, gone_is, leaves.planned.some, leaves.planned.gone_is);
              may_go_on =
                  record {
                    place = place;
                    within = omega (arith, gone_is, leaves.planned.gone_inside, o.rest_is);
                    known = omega (arith, its_job, fit.arrivals);
                    listed = omega (arith, its_job, finishes_long fit v, long);
                    time = omega (arith, ends, ahead.in_time, fit.horizon);
                  };
              keeps = λ went.
                  record {
                    travels = spell_went fit (travels_jobs v jobs_opened.0) spelled long behind_it went;
                    by = omega (arith, ends, next_by way);
                    next_is = way.next_is;
                    root_is = leaves.root_is;
                  };
            }

        pub spell_over : r.work.arrivals ≤ length r.finishes → {until root : ℕ} {from : Here}
            → Taking r.work until from h b.turns.tree stop root → {t : Moment} → t ≡ up_to_last (later (moment h.t) g.gone)
            → SpellOver r h i until stop t opened turns segments g
        spell_over long {until} way is =
            subst⁻¹ (λ (m : Moment). SpellOver r h i until stop m opened turns segments g)
            (is ∙ up_to_last_whole (moment (h.t + g.gone.ticks)) (omega (arith, ends, ahead.in_time, fit.horizon)))
            (over long way)
