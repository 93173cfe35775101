-- How the books go on by one event: k + 1 ticks from t on, while no arrival comes.
use Prim.Native.Nat.{ℕ, suc, ◌+◌, ◌-◌, ◌≤◌, ◌<◌}
use borrow.Author.Tests.{eqb-true, eqb-false}
use lib.Dec.{eqb}
use lib.ListN.{length, get_or, set, length-set}
use lib.Seq.{get_or-set_same, get_or-set_other}
use mathlib.Core.Bool.{Bool, true, false, cond}
use mathlib.Core.List.{List}
use mathlib.Core.Path.{◌≡◌, refl, sym, ◌∙◌, ap, ap₂, subst, subst⁻¹}
use native.Mathlib.Decide.{ℕ_discrete}
use native.Mathlib.Nat.{add-zero}
use native.Mathlib.Omega.{arith}
use Rattle.clock.specs.Clock.{moment}
use Rattle.dispatcher.specs.Pick.{server_at, Earliest, NoneWorks}
use Rattle.dispatcher.specs.declared.Dispatcher.{Dispatcher}
use Rattle.finish.specs.Finish.{Finish, finish, finish_number}
use Rattle.history.specs.Choice.{given, ticks_served}
use Rattle.judgement.proofs.FitLaws.{Fit}
use Rattle.moments.proofs.OneGo.{later_by, ran_for, served_for}
use Rattle.moments.proofs.PostponedLaws.{postponed_not, postponed_other, postponed_own, postponed_idle}
use Rattle.moments.specs.Moments.{history, postponed_by, waiting_at}
use Rattle.server.specs.declared.Server.{Server}
use Rattle.sizes.specs.Sizes.{clock_end, most_servers}
use Rattle.workfile.specs.Work.{Work}
use Rattle.books.proofs.Book.{Run, here, JobBook, job_book, lines_with, Book, SegmentBook, turns_of, book, with_segments, with_waits}
use Rattle.books.proofs.Jobs.FinishList.{finishes_same, finishes_one}
use Rattle.books.proofs.Jobs.JobBooks.{Jobs, jobs_set, jobs_left}
use Rattle.books.proofs.Jobs.Jobs.{Job, job_waits, job_goes_on, job_ends, job_waiting, NextJob, idle_ends_none, run_ends_no_other, job_was_open, job_still_open, job_finishes}
use Rattle.books.proofs.Stretches.Interruptions.{Interruptions, interruptions_after, none_of_itself, interruptions_by, interruptions_idle}
use Rattle.books.proofs.Stretches.Segmented.{Segmented, segmented_then}
use Rattle.books.proofs.Stretches.Stretches.{chosen_server, chosen_nobody}
use Rattle.books.proofs.Stretches.Turns.{turned, turned_start, stays_same, waits_kept}
use Rattle.books.proofs.Travel.Events.{event_at, event_turns, event_history, event_served, event_unserved, event_own, event_stands, idle_turns, idle_history, idle_unserved, idle_stands}
use Rattle.books.proofs.Travel.Kept.{Counts, Kept}
use Rattle.books.proofs.Travel.Stands.{NoneBefore, Stands, stands_within}

module _ {r : Run} {places t j : ℕ} {d : Dispatcher} {b : Book} (fit : Fit r.work places) (x : Kept r (here t j d) b) (k : ℕ)
    (horizon : t + suc k ≤ r.work.horizon.tick) (later : NoneBefore r.work j (t + suc k)) where
  abbrev w : Work
  w = r.work

  s : Stands w t j d
  s = x.stands

  end : t + suc k ≤ clock_end
  end = omega (arith, fit.horizon)

  -- Nobody runs.
  module _ (none : NoneWorks d d.count) where
    idle_jobs : Jobs r (t + suc k) j b.jobs
    idle_jobs =
        let same = idle_ends_none w t (suc k) (idle_history fit s k end later none) in
        record {
          job_places = x.jobs.job_places;
          left_places = x.jobs.left_places;
          each = λ i l. job_waits (t + suc k) (idle_unserved fit s k end later none i) (x.jobs.each i l);
          follows = x.jobs.follows;
          finishes_is =
              x.jobs.finishes_is
              ∙ finishes_same w.arrivals r.finishes (finish w (history w) t) (finish w (history w) (t + suc k)) (λ a l. sym (same a));
        }

    idle_counts : Counts w (t + suc k) b.turns.postponed
    idle_counts =
        record {
          places = x.counts.places;
          each = λ i l. x.counts.each i l ∙ sym (postponed_idle w t (suc k) (idle_turns fit s k end later none) fit i);
        }

    abbrev waited : SegmentBook
    waited = turned b.segments t most_servers (moment 0)

    idle_segmented : Segmented r waited (t + suc k)
    idle_segmented =
        subst (λ (y : SegmentBook). Segmented r y (t + suc k)) (waits_kept b.segments t most_servers (moment 0))
        (segmented_then x.segmented k most_servers b.segments.current.waits (moment 0) (λ b. (refl, refl))
        (λ q b. idle_history fit s k end later none q b ∙ sym (chosen_nobody most_servers (moment 0) (omega arith)))
        (λ b. let no : ⊥ = omega arith in absurd no))

    idle_interruptions : Interruptions w waited.current.start.tick b.turns.interrupted
    idle_interruptions =
        let y = b.segments in
        turned_start y t most_servers (moment 0) (λ e. Interruptions w e b.turns.interrupted) (λ on. x.interruptions)
        (λ ends.
        interruptions_idle y.current x.segmented.stretch x.interruptions
        (ap (history w) (sym (add-zero t)) ∙ idle_history fit s k end later none 0 (omega arith)))

    pub kept_idle : Kept r (here (t + suc k) j (later_by d (suc k))) (with_segments b waited)
    kept_idle =
        record {
          stands = idle_stands fit s k end later none;
          jobs = idle_jobs;
          counts = idle_counts;
          segmented = idle_segmented;
          interruptions = idle_interruptions;
        }

  -- Server i runs, on the job that it serves.
  module _ (i : ℕ) (p : Earliest d d.count i) (some : 0 < get_or b.jobs.lines.left i 0) (within : suc k ≤ get_or b.jobs.lines.left i 0)
      (budget : suc k ≤ (server_at d i).remaining.ticks) where
    abbrev job : ℕ
    job = get_or b.jobs.lines.job i 0

    abbrev left : ℕ
    left = get_or b.jobs.lines.left i 0

    among : i < most_servers
    among = omega (arith, p.among, (stands_within fit s (omega (arith, end))).count)

    its : Job w t j i job left
    its = x.jobs.each i among

    its_work : suc k ≤ (server_at d i).waiting.ticks
    its_work = omega (arith, job_waiting its some (s.adds i))

    history_is : (q : ℕ) → q < suc k → history w (t + q) ≡ given i (server_at d i).deadline
    history_is = event_history fit s k end later i p budget its_work

    -- the jobs of the others wait
    others_wait : (n : ℕ) → n < most_servers → (n ≡ i → ⊥) → Job w (t + suc k) j n (get_or b.jobs.lines.job n 0) (get_or b.jobs.lines.left n 0)
    others_wait n l other = job_waits (t + suc k) (event_unserved fit s k end later i p budget its_work n other) (x.jobs.each n l)

    its_ticks : ticks_served (history w) i (t + suc k) ≡ ticks_served (history w) i t + suc k
    its_ticks = event_served fit s k end later i p budget its_work

    no_other_ends : (a : ℕ) → a < w.arrivals → (a ≡ job → ⊥) → finish w (history w) t a ≡ finish w (history w) (t + suc k) a
    no_other_ends a l n = sym (run_ends_no_other fit k (server_at d i).deadline its some within s.count history_is a l n)

    pub its_place : job < w.arrivals
    its_place = omega (arith, its.taken some, s.count)

    -- its own job goes on
    pub ran_jobs : suc k < left → Jobs r (t + suc k) j (job_book (lines_with b.jobs.lines b.jobs.lines.job (set b.jobs.lines.left i (left - suc k))) b.jobs.finishes)
    ran_jobs more =
        jobs_left b.jobs.lines i
        (jobs_set i among x.jobs others_wait (job_goes_on (suc k) its some within its_ticks more)
        (x.jobs.finishes_is
        ∙ finishes_same w.arrivals r.finishes (finish w (history w) t) (finish w (history w) (t + suc k))
        (λ a l. same a l (ℕ_discrete a job))))
      where
        same : (a : ℕ) → a < w.arrivals → Dec (a ≡ job) → finish w (history w) t a ≡ finish w (history w) (t + suc k) a
        same a l (yes q) =
            subst⁻¹ (λ (n : ℕ). finish w (history w) t n ≡ finish w (history w) (t + suc k) n) q
            (job_was_open fit k (server_at d i).deadline its some within s.count history_is
            ∙ sym (job_still_open fit k (server_at d i).deadline its some within s.count history_is more))
        same a l (no n) = no_other_ends a l n

    -- or has ended, and the next one stands behind it
    pub ran_jobs_ended : w.arrivals ≤ length r.finishes → suc k ≡ left → {next : ℕ} → NextJob w i (suc job) next
        → Jobs r (t + suc k) j
        (job_book (lines_with b.jobs.lines (set b.jobs.lines.job i next) (set b.jobs.lines.left i (left - suc k))) (set b.jobs.finishes job (t + suc k)))
    ran_jobs_ended long e {next} behind =
        jobs_set i among x.jobs others_wait
        (subst (Job w (t + suc k) j i next) nothing (job_ends (suc k) its some within its_ticks e behind))
        (ap₂ (λ (l : List ℕ) (y : Finish). set l job (finish_number y)) x.jobs.finishes_is
        (sym (job_finishes fit k (server_at d i).deadline its some within s.count history_is e))
        ∙ finishes_one w.arrivals r.finishes (finish w (history w) t) (finish w (history w) (t + suc k)) job its_place long no_other_ends)
      where
        nothing : 0 ≡ left - suc k
        nothing = omega arith

    -- one postponement where the budget is spent
    abbrev spent_now : ℕ
    spent_now = cond (eqb (suc k) (server_at d i).remaining.ticks) 1 0

    abbrev counted : List ℕ
    counted = set b.turns.postponed i (get_or b.turns.postponed i 0 + spent_now)

    counts_else : (n : ℕ) → n < most_servers → (n ≡ i → ⊥) → get_or b.turns.postponed n 0 ≡ postponed_by w n (t + suc k)
    counts_else n l other =
        x.counts.each n l
        ∙ sym
        (postponed_other w t i k (server_at d i).remaining.ticks (server_at d i).deadline
        (event_turns fit s k end later i p budget its_work)
        fit
        n
        other)

    counts_own : postponed_by w i (t + suc k) ≡ get_or b.turns.postponed i 0 + spent_now
    counts_own = go (eqb (suc k) (server_at d i).remaining.ticks) refl
      where
        go : (y : Bool) → eqb (suc k) (server_at d i).remaining.ticks ≡ y
            → postponed_by w i (t + suc k) ≡ get_or b.turns.postponed i 0 + cond y 1 0
        go true e =
            postponed_own w t i k (server_at d i).remaining.ticks (server_at d i).deadline
            (event_turns fit s k end later i p budget its_work)
            fit
            (eqb-true _ _ e)
            ∙ ap (λ (n : ℕ). n + 1) (sym (x.counts.each i among))
        go false e =
            let other : suc k ≡ (server_at d i).remaining.ticks → ⊥ = eqb-false _ _ e in
            postponed_not w t i k (server_at d i).remaining.ticks (server_at d i).deadline
            (event_turns fit s k end later i p budget its_work)
            fit
            (omega arith)
            i
            ∙ sym (x.counts.each i among)
            ∙ sym (add-zero (get_or b.turns.postponed i 0))

    ran_counts : Counts w (t + suc k) counted
    ran_counts = record { places = simp length-set x.counts.places; each = λ n l. each n l (ℕ_discrete n i) }
      where
        each : (n : ℕ) → n < most_servers → Dec (n ≡ i) → get_or counted n 0 ≡ postponed_by w n (t + suc k)
        each n l (yes q) =
            subst⁻¹ (λ (n : ℕ). get_or counted n 0 ≡ postponed_by w n (t + suc k)) q
            (get_or-set_same b.turns.postponed i (get_or b.turns.postponed i 0 + spent_now) 0 (omega (arith, x.counts.places, among))
            ∙ sym counts_own)
        each n l (no other) =
            get_or-set_other b.turns.postponed i n (get_or b.turns.postponed i 0 + spent_now) 0 other ∙ counts_else n l other

    -- the segments
    abbrev ran_segments : SegmentBook
    ran_segments = with_waits (turned b.segments t i (server_at d i).deadline) (served_for (server_at d i) (suc k)).waiting

    ran_segmented : Segmented r ran_segments (t + suc k)
    unfolding waiting_at
    ran_segmented =
        segmented_then x.segmented k i (served_for (server_at d i) (suc k)).waiting (server_at d i).deadline
        (λ m. let no : ⊥ = omega (arith, among) in absurd no)
        (λ q l. history_is q l ∙ sym (chosen_server i (server_at d i).deadline among))
        (λ l.
        ap (λ (y : Server). y.waiting.ticks) (sym (event_own fit s k end later i p budget its_work))
        ∙ ap (λ (y : Dispatcher). (server_at y i).waiting.ticks) (event_at fit s k end later i p budget its_work))

    -- the interruptions
    abbrev interrupted_now : List ℕ
    interrupted_now = interruptions_after b.segments.current i b.turns.interrupted

    ran_interruptions : Interruptions w ran_segments.current.start.tick interrupted_now
    ran_interruptions =
        let y = b.segments in
        let deadline = (server_at d i).deadline in
        turned_start y t i deadline (λ e. Interruptions w e interrupted_now)
        (λ on.
        subst⁻¹ (Interruptions w y.current.start.tick)
        (none_of_itself y.current i b.turns.interrupted (stays_same y.current i deadline on).0)
        x.interruptions)
        (λ ends.
        interruptions_by y.current x.segmented.stretch x.interruptions {d = deadline} among
        (ap (history w) (sym (add-zero t)) ∙ history_is 0 (omega arith))
        (omega arith)
        x.segmented.waiting)

    -- all of it, with whatever book of jobs holds then
    pub kept_ran : {jobs : JobBook} → Jobs r (t + suc k) j jobs
        → Kept r (here (t + suc k) j (ran_for d i (suc k))) (book (turns_of b.turns.tree counted interrupted_now) ran_segments jobs)
    kept_ran jobs =
        record {
          stands = event_stands fit s k end later i p budget its_work;
          jobs = jobs;
          counts = ran_counts;
          segmented = ran_segmented;
          interruptions = ran_interruptions;
        }
