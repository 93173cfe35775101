-- A spell as it was planned keeps what holds between two events.
use Prim.Native.Nat.{ℕ, zero, suc, ◌+◌, ◌-◌, ◌*◌, ◌≤◌, ◌<◌}
use lib.Dec.{eqb}
use lib.ListN.{length, get_or, set}
use lib.Seq.{get_or-set_same, get_or-set_other, set-set}
use mathlib.Core.Bool.{cond}
use mathlib.Core.List.{List}
use mathlib.Core.Path.{◌≡◌, refl, sym, ◌∙◌, ap, ap₂, subst, subst⁻¹, subst₂}
use native.Mathlib.Nat.{mul-le-mul_right}
use native.Mathlib.Omega.{arith}
use Rattle.clock.specs.Clock.{moment}
use Rattle.clock.specs.declared.Length.{Length}
use Rattle.dispatcher.specs.Moves.{standing}
use Rattle.dispatcher.specs.Pick.{server_at, Earliest}
use Rattle.dispatcher.specs.Within.{Within}
use Rattle.dispatcher.specs.declared.Dispatcher.{Dispatcher}
use Rattle.judgement.proofs.FitLaws.{Fit}
use Rattle.moments.proofs.OneGo.{ran_for, served_for}
use Rattle.server.specs.Server.{vacant}
use Rattle.server.specs.declared.Server.{Server}
use Rattle.sizes.specs.Sizes.{most_servers}
use Rattle.books.specs.declared.Gone.{Gone}
use Rattle.books.specs.declared.PlannedSpell.{PlannedSpell}
use Rattle.books.specs.declared.Turns.{Turns}
use Rattle.books.proofs.Book.{Run, Here, here, Book, book, SegmentBook, turns_of, JobBook, job_book, lines_with}
use Rattle.books.proofs.Budgets.BudgetBooks.{budget_book, on_all}
use Rattle.books.proofs.Budgets.Budgets.{budgets_on, ran_budgets, turned_on, Further, wins_picked}
use Rattle.books.proofs.Jobs.JobBooks.{Jobs}
use Rattle.books.proofs.Jobs.Jobs.{NextJob, job_waiting}
use Rattle.books.proofs.Spell.Planned.{Planned}
use Rattle.books.proofs.Spell.SpellLeaves.{SpellLeaves, after_ticks}
use Rattle.books.proofs.Stretches.Interruptions.{interruptions_after}
use Rattle.books.proofs.Stretches.Turns.{turned_own}
use Rattle.books.proofs.Travel.BetweenEvents.{Ahead, clock_now, now_within}
use Rattle.books.proofs.Travel.EventBooks.{kept_ran, ran_jobs, ran_jobs_ended}
use Rattle.books.proofs.Travel.Kept.{Kept, kept_tree}
use Rattle.books.proofs.Travel.Stands.{NoneBefore, stands_within}
use Rattle.books.proofs.Travel.Travels.{Travels}
use Rattle.books.proofs.Tree.Keys.{key_of, Keyed, holds_set}
use Rattle.books.proofs.Tree.Winners.{Set}

-- The spell of the picked server i, once its job is opened, for so many ticks at most: none comes behind that job or the next arrival.
pub record Spelled (r : Run) (h : Here) (b : Book) (i most : ℕ) (turns : Turns) (segments : SegmentBook) (g : Gone) : Type 0 where
  pub pick : Earliest h.dispatcher h.dispatcher.count i
  pub some : 0 < get_or b.jobs.lines.left i 0
  pub of_job : most ≤ get_or b.jobs.lines.left i 0
  pub ahead : Ahead r.work h (h.t + most)
  pub leaves : SpellLeaves h.t i (server_at h.dispatcher i) most b.turns turns b.segments segments g

-- where the run stands when it is over
abbrev pub here_after : Here → ℕ → Gone → Here
here_after h i g =
    here (h.t + g.gone.ticks) h.taken
    (standing h.dispatcher (moment (h.t + g.gone.ticks)) (set h.dispatcher.servers i g.server))

module _ {r : Run} {h : Here} {b : Book} (fit : Fit r.work (length r.finishes)) (v : Travels r h b) {i most : ℕ} {turns : Turns}
    {segments : SegmentBook} {g : Gone} (x : Spelled r h b i most turns segments g) where
  abbrev d : Dispatcher
  d = h.dispatcher

  abbrev s : Server
  s = server_at d i

  abbrev left : ℕ
  left = get_or b.jobs.lines.left i 0

  abbrev spell : PlannedSpell
  spell = x.leaves.spell

  abbrev n : ℕ
  n = spell.budgets

  p : Planned b.turns.tree i s most spell
  p = x.leaves.planned

  pick : Earliest d d.count i
  pick = x.pick

  within : Within d
  within = now_within fit v

  place : i < length d.servers
  place = omega (arith, within.places, within.count, pick.among)

  server : i < most_servers
  server = omega (arith, within.count, pick.among)

  pub gone_is : g.gone.ticks ≡ spell.ticks.ticks + n * spell.after.budget.ticks
  gone_is = ap (λ (l : Length). l.ticks) x.leaves.gone_is ∙ sym p.gone_after

  -- the budgets are within what there is to spare
  budgets_spare : n * spell.after.budget.ticks ≤ p.spare
  budgets_spare = go n p.further.fits
    where
      go : (m : ℕ) → (0 < m → m * spell.after.budget.ticks < p.spare) → m * spell.after.budget.ticks ≤ p.spare
      go zero fits = omega arith
      go (suc m) fits = omega (arith, fits (omega arith))

  -- Its ticks are m + 1.
  module _ (m : ℕ) (ticks_are : spell.ticks.ticks ≡ suc m) where
    abbrev then : ℕ
    then = h.t + suc m

    to_horizon : then ≤ r.work.horizon.tick
    to_horizon = omega (arith, p.inside, x.ahead.in_time)

    none_before : NoneBefore r.work h.taken then
    none_before a l y = omega (arith, p.inside, x.ahead.later a l y)

    inside : suc m ≤ left
    inside = omega (arith, p.inside, x.of_job)

    budget : suc m ≤ s.remaining.ticks
    budget = omega (arith, p.budget)

    -- After them: the dispatcher, and the book with whatever jobs stand then.
    abbrev ran : Dispatcher
    ran = ran_for d i (suc m)

    after_is : served_for s (suc m) ≡ spell.after
    after_is = ap (served_for s) (sym ticks_are) ∙ sym p.after_is

    own_then : server_at ran i ≡ spell.after
    own_then = get_or-set_same d.servers i (served_for s (suc m)) vacant place ∙ after_is

    other_then : (o : ℕ) → (o ≡ i → ⊥) → server_at ran o ≡ server_at d o
    other_then o other = get_or-set_other d.servers i o (served_for s (suc m)) vacant other

    abbrev postponed_then : ℕ
    postponed_then = get_or b.turns.postponed i 0 + cond (eqb (suc m) s.remaining.ticks) 1 0

    abbrev interrupted_then : List ℕ
    interrupted_then = interruptions_after b.segments.current i b.turns.interrupted

    abbrev ran_book : JobBook → Book
    ran_book jobs =
        book
        (turns_of b.turns.tree (set b.turns.postponed i postponed_then) interrupted_then)
        (after_ticks b.segments h.t i s.deadline spell.after)
        jobs

    module _ {jobs : JobBook} (stand : Jobs r then h.taken jobs) (of_job : p.spare ≤ get_or jobs.lines.left i 0) where
      kept_then : Kept r (here then h.taken ran) (ran_book jobs)
      kept_then =
          subst
          (λ (x : Server).
          Kept r (here then h.taken ran)
          (book
          (turns_of b.turns.tree (set b.turns.postponed i postponed_then) interrupted_then)
          (after_ticks b.segments h.t i s.deadline x)
          jobs))
          after_is
          (kept_ran fit v.kept m to_horizon none_before i pick x.some inside budget stand)

      within_then : Within ran
      within_then = stands_within fit kept_then.stands (omega (arith, to_horizon, fit.horizon))

      -- it goes on for its budgets, each of which it wins
      abbrev its : Server
      its = server_at ran i

      further : Further b.turns.tree i its p.spare n
      further = subst⁻¹ (λ (x : Server). Further b.turns.tree i x p.spare n) own_then p.further

      place_then : i < length ran.servers
      place_then = omega (arith, within_then.places, server)

      waits_more : 0 < get_or jobs.lines.left i 0 → get_or jobs.lines.left i 0 ≤ its.waiting.ticks
      waits_more l = job_waiting (stand.each i server) l (kept_then.stands.adds i)

      ends_by : then + n * its.budget.ticks ≤ h.t + most
      ends_by = omega (arith, ap (λ (x : Server). n * x.budget.ticks) own_then, budgets_spare, p.left)

      on_then : Kept r (here (then + n * its.budget.ticks) h.taken (ran_budgets ran i n)) (budget_book (ran_book jobs) then i its n)
      on_then = go its.budget.ticks refl
        where
          still : (o : ℕ) → o < n → o * its.budget.ticks < its.waiting.ticks
          still o l =
              let fits : n * its.budget.ticks < p.spare = further.fits (omega arith) in
              omega (arith, mul-le-mul_right its.budget.ticks l, waits_more (omega arith))

          go : (q : ℕ) → its.budget.ticks ≡ q
              → Kept r (here (then + n * its.budget.ticks) h.taken (ran_budgets ran i n)) (budget_book (ran_book jobs) then i its n)
          go zero q = let no : ⊥ = omega (arith, (within_then.servers i pick.among).budget) in absurd no
          go (suc q) e =
              on_all fit place_then server q e kept_then (turned_own b.segments h.t i s.deadline).0 n further.full
              (λ o l.
              wins_picked b.turns.tree ran i place_then pick.among within.count v.keyed.enough
              (λ a y other. v.keyed.keys a y ∙ ap (λ (z : Server). key_of z a) (sym (other_then a other)))
              o
              (still o l)
              (λ a y other. further.wins o a l y other))
              (λ l. omega (arith, further.fits l))
              (omega (arith, ends_by, x.ahead.in_time))
              (λ a l y. omega (arith, ends_by, x.ahead.later a l y))

      -- when it is over
      over_is : here (then + n * its.budget.ticks) h.taken (ran_budgets ran i n) ≡ here_after h i g
      unfolding ran_budgets
      over_is =
          ap₂ (λ (u c : ℕ). here u h.taken (standing d (moment c) (set ran.servers i (budgets_on its n)))) time_is clock_is
          ∙ ap (λ (l : List Server). here (h.t + g.gone.ticks) h.taken (standing d (moment (h.t + g.gone.ticks)) l)) servers_are
        where
          time_is : then + n * its.budget.ticks ≡ h.t + g.gone.ticks
          time_is = omega (arith, gone_is, ap (λ (x : Server). n * x.budget.ticks) own_then)

          clock_is : d.clock.tick + suc m + n * its.budget.ticks ≡ h.t + g.gone.ticks
          clock_is = omega (arith, time_is, clock_now fit v)

          servers_are : set ran.servers i (budgets_on its n) ≡ set d.servers i g.server
          servers_are =
              set-set d.servers i (served_for s (suc m)) (budgets_on its n)
              ∙ ap (set d.servers i) (ap (λ (x : Server). budgets_on x n) own_then ∙ sym p.last_is ∙ sym x.leaves.server_is)

      turns_are : (budget_book (ran_book jobs) then i its n).turns ≡ turns_of b.turns.tree turns.postponed turns.interrupted
      turns_are = ap₂ (turns_of b.turns.tree) postponed_are (sym x.leaves.interrupted_is)
        where
          postponed_are : set (set b.turns.postponed i postponed_then) i (get_or (set b.turns.postponed i postponed_then) i 0 + n)
              ≡ turns.postponed
          postponed_are =
              set-set b.turns.postponed i postponed_then (get_or (set b.turns.postponed i postponed_then) i 0 + n)
              ∙ ap (set b.turns.postponed i)
              (omega (
                arith,
                get_or-set_same b.turns.postponed i postponed_then 0 (omega (arith, v.kept.counts.places, server)),
                p.postponed_is,
                ap {B = ℕ} (λ (k : ℕ). cond (eqb k s.remaining.ticks) 1 0) ticks_are,
              ))
              ∙ sym x.leaves.postponed_is

      segments_are : turned_on (after_ticks b.segments h.t i s.deadline spell.after) then i its n ≡ segments
      segments_are =
          ap₂ (λ (k : ℕ) (x : Server). turned_on (after_ticks b.segments h.t i s.deadline spell.after) (h.t + k) i x n)
          (sym ticks_are)
          own_then
          ∙ sym x.leaves.segments_is

      -- the tree
      keyed_over : Keyed turns.tree (here_after h i g).dispatcher
      keyed_over =
          holds_set i v.keyed refl (λ a other. get_or-set_other d.servers i a g.server vacant other)
          (subst (Set b.turns.tree turns.tree i) key_is x.leaves.set_now)
        where
          key_is : spell.key ≡ key_of (server_at (here_after h i g).dispatcher i) i
          key_is =
              p.key_is
              ∙ ap (λ (x : Server). key_of x i) (sym x.leaves.server_is ∙ sym (get_or-set_same d.servers i g.server vacant place))

      went_so : {after : JobBook}
          → job_book (lines_with jobs.lines jobs.lines.job (set jobs.lines.left i (get_or jobs.lines.left i 0 - n * spell.after.budget.ticks))) jobs.finishes ≡ after
          → Travels r (here_after h i g) (book turns segments after)
      went_so {after} jobs-are =
          record {
            kept =
                kept_tree turns.tree
                (subst₂ (Kept r) over_is
                (ap₂ (λ (y : Turns) (z : SegmentBook). book y z (budget_book (ran_book jobs) then i its n).jobs) turns_are segments_are
                ∙ ap (book (turns_of b.turns.tree turns.postponed turns.interrupted) segments)
                (ap (λ (y : Server). job_book (lines_with jobs.lines jobs.lines.job (left_after y)) jobs.finishes) own_then ∙ jobs-are))
                on_then);
            horizon = omega (arith, gone_is, budgets_spare, p.left, x.ahead.in_time);
            keyed = keyed_over;
          }
        where
          left_after : Server → List ℕ
          left_after y = set jobs.lines.left i (get_or jobs.lines.left i 0 - n * y.budget.ticks)

    -- what is left of the job after the ticks
    abbrev pub left_then : List ℕ
    left_then = set b.jobs.lines.left i (left - suc m)

    pub its_left : get_or left_then i 0 ≡ left - suc m
    its_left = get_or-set_same b.jobs.lines.left i (left - suc m) 0 (omega (arith, v.kept.jobs.left_places, server))

    of_job : p.spare ≤ get_or left_then i 0
    of_job = omega (arith, its_left, p.left, x.of_job)

    -- something is left
    pub spell_ran : suc m < left → {after : JobBook}
        → job_book (lines_with b.jobs.lines b.jobs.lines.job (set left_then i (get_or left_then i 0 - n * spell.after.budget.ticks))) b.jobs.finishes ≡ after
        → Travels r (here_after h i g) (book turns segments after)
    spell_ran more = went_so (ran_jobs fit v.kept m to_horizon none_before i pick x.some inside budget more) of_job

    -- or nothing, and the next job stands behind it
    pub spell_ended : r.work.arrivals ≤ length r.finishes → suc m ≡ left → {next : ℕ}
        → NextJob r.work i (suc (get_or b.jobs.lines.job i 0)) next → {after : JobBook}
        → job_book (lines_with b.jobs.lines (set b.jobs.lines.job i next) (set left_then i (get_or left_then i 0 - n * spell.after.budget.ticks)))
        (set b.jobs.finishes (get_or b.jobs.lines.job i 0) then)
        ≡ after
        → Travels r (here_after h i g) (book turns segments after)
    spell_ended long all follows =
        went_so (ran_jobs_ended fit v.kept m to_horizon none_before i pick x.some inside budget long all follows) of_job
