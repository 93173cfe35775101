-- `run::travel::to_moment` meets its promise: what `Travels` says holds between any two events, and no event goes on behind its end.
use Prim.Native.Nat.{ℕ, ◌<◌}
use lib.ListN.{length}
use mathlib.Core.List.{List}
use mathlib.Core.Path.{refl, sym, ◌∙◌, ap, subst⁻¹}
use native.Mathlib.Numerals.{add-one}
use native.Mathlib.Omega.{arith}
use Rattle.books.proofs.Accepted.{fit_beside}
use Rattle.books.proofs.Book.{Run, lent_in, Here, here, Book, SegmentBook, job_book, segment_book}
use Rattle.books.proofs.Spell.SpellEvent.{place, picked_serves, may_go, SpellOver, spell_over}
use Rattle.books.proofs.Travel.ArrivalTaken.{Takes, takes, due_here, due_now, taking_more}
use Rattle.books.proofs.Travel.BetweenEvents.{Ahead, stop_ahead, root_pick}
use Rattle.books.proofs.Travel.IdleTime.{idled_on}
use Rattle.books.proofs.Travel.Travels.{MayTravel, travels_taking}
use Rattle.clock.proofs.OrderLaws.{less, not_less, at_most, not_at_most, shorter_is}
use Rattle.clock.specs.declared.Length.{Length}
use Rattle.clock.specs.declared.Moment.{Moment}
use Rattle.dispatcher.specs.Pick.{Earliest}
use Rattle.judgement.proofs.FitLaws.{Fit}
use Rattle.workfile.specs.Work.{work}
use Rattle.run.proofs.travel.to_moment.Goals as goal
use Rattle.run.proofs.travel.to_moment.Goals.{In-loop-next, After-arrival_of-a, In-Some, After-later-t}

-- the work fits beside the finish list that was lent
its_fit : {file : List ℕ} {until : ℕ} {r : Run} {h : Here} {b : Book} → MayTravel file until r h b
    → Fit (work file) (length r.finishes)
its_fit pre = fit_beside _ pre.accepted.fit pre.long

-- An arrival that is due, and as it was read.
due : (r : In-loop-next) → r.loop-next.j < (work r.args.file.now).arrivals
due r = due_here r.loop-next.invariant (less r.lt.ensures r.loop-until-test.true) (at_most r.le.ensures r.loop-next-test.true)

pub arrival_of-a-requires : goal.arrival_of-a-requires
arrival_of-a-requires c =
    record { accepted = c.requires.accepted; k_bound = due (goal.at.arrival_of-a-requires c).In-loop-next }

taken : (r : After-arrival_of-a) → Takes (work r.args.file.now) r.loop-until.t.tick r.loop-next.j r.loop-next.d r.arrival_of-a.result
taken r =
    let fit = its_fit r.requires in
    let g = r.loop-next.invariant in
    let early : r.loop-until.t.tick < r.args.until.tick = less r.lt.ensures r.loop-until-test.true in
    takes fit g.stands (omega (arith, early, r.requires.in_time, fit.horizon))
    (due_here g (less r.lt.ensures r.loop-until-test.true) (at_most r.le.ensures r.loop-next-test.true))
    (due_now g (less r.lt.ensures r.loop-until-test.true) (at_most r.le.ensures r.loop-next-test.true))
    r.arrival_of-a.result
    r.arrival_of-a.ensures

pub offset_bounds-d-i : goal.offset_bounds-d-i
offset_bounds-d-i c = omega (arith, (taken (goal.at.offset_bounds-d-i c).After-arrival_of-a).place)

pub bounds-d-i : goal.bounds-d-i
bounds-d-i c = (taken (goal.at.bounds-d-i c).After-arrival_of-a).place

pub take-requires : goal.take-requires
take-requires c = (taken (goal.at.take-requires c).After-arrival_of-a).may c.loop-next.invariant.keyed

pub offset_bounds-d-i-in-loop-next : goal.offset_bounds-d-i-in-loop-next
offset_bounds-d-i-in-loop-next c = omega (arith, (taken (goal.at.offset_bounds-d-i-in-loop-next c).After-arrival_of-a).place)

pub bounds-d-i-in-loop-next : goal.bounds-d-i-in-loop-next
bounds-d-i-in-loop-next c = (taken (goal.at.bounds-d-i-in-loop-next c).After-arrival_of-a).place

pub loop-next-smaller : goal.loop-next-smaller
loop-next-smaller c = omega (arith, due (goal.at.loop-next-smaller c).In-loop-next)

pub loop-next-preserved : goal.loop-next-preserved
loop-next-preserved c =
    let r = (goal.at.loop-next-preserved c).After-arrival_of-a in
    let g = c.loop-next.invariant in
    rw add-one
    (taking_more g (less c.lt.ensures c.loop-until-test.true) (at_most c.le.ensures c.loop-next-test.true) ((taken r).stands _ c.take.ensures.value)
    ((taken r).keyed _ g.keyed c.take.ensures.set)
    (rw add-one at (ap (λ (m : Moment). m.tick) c.next_stop-next-in-loop-next.ensures))
    refl)

pub loop-until-preserved-in-None : goal.loop-until-preserved-in-None
loop-until-preserved-in-None c =
    let fit = its_fit c.requires in
    let g = c.loop-next.invariant in
    idled_on fit (travels_taking c.loop-until.invariant.travels g) (sym g.root_is ∙ c.in-None.ensures)
    (stop_ahead fit g.next_is (not_at_most c.le.ensures c.loop-next-test.false) c.requires.in_time)
    c.idle-c.ensures
    g

-- The server that is picked.
pick : (e : In-Some) → let d = e.loop-next.d in Earliest d d.count e.in-Some.i
pick e =
    let d = e.loop-next.d in
    let is = e.in-Some.ensures in
    subst⁻¹ (Earliest d d.count) is.1
    (root_pick (its_fit e.requires) (travels_taking e.loop-until.invariant.travels e.loop-next.invariant) e.loop-next.root
    e.loop-next.invariant.root_is
    is.0)

its_place : (e : In-Some) → e.in-Some.i < 64
its_place e = place (its_fit e.requires) (travels_taking e.loop-until.invariant.travels e.loop-next.invariant) (pick e)

-- up to the next stop no arrival comes
ahead : (e : In-Some) → Ahead (work e.args.file.now) (here e.loop-until.t.tick e.loop-next.j e.loop-next.d) e.loop-next.next.tick
ahead e = stop_ahead (its_fit e.requires) e.loop-next.invariant.next_is (not_at_most e.le.ensures e.loop-next-test.false) e.requires.in_time

pub left_of-rest-requires : goal.left_of-rest-requires
left_of-rest-requires c =
    record {
      accepted = c.requires.accepted;
      serves =
          picked_serves (its_fit c.requires) (travels_taking c.loop-until.invariant.travels c.loop-next.invariant)
          (pick (goal.at.left_of-rest-requires c).In-Some);
    }

pub go-g-requires : goal.go-g-requires
go-g-requires c =
    let e = (goal.at.go-g-requires c).In-Some in
    may_go (its_fit c.requires) (travels_taking c.loop-until.invariant.travels c.loop-next.invariant) (pick e) c.left_of-rest.ensures
    (ahead e)
    c.until-room.ensures
    (ap (λ (x : Length). x.ticks) (c.min.ensures ∙ shorter_is _ _))

-- Once the spell has gone.
abbrev segments_after : After-later-t → SegmentBook
segments_after l = segment_book l.go-g.new.list l.go-g.result.current

over : (l : After-later-t)
    → SpellOver (lent_in (work l.args.file.now) l.args.from.moment.tick l.args.from.current l.args.list.now l.args.finishes.now)
    (here l.loop-until.t.tick l.loop-next.j l.loop-next.d)
    l.in-Some.i
    l.args.until.tick
    l.loop-next.next.tick
    l.later-t.result
    (job_book l.left_of-rest.new.lines l.loop-until.finishes)
    l.go-g.new.turns
    (segments_after l)
    l.go-g.result
over l =
    let fit = its_fit l.requires in
    let g = l.loop-next.invariant in
    let v = travels_taking l.loop-until.invariant.travels g in
    let d = l.loop-next.d in
    let is = l.in-Some.ensures in
    spell_over fit v (subst⁻¹ (Earliest d d.count) is.1 (root_pick fit v l.loop-next.root g.root_is is.0)) l.left_of-rest.ensures
    (stop_ahead fit g.next_is (not_at_most l.le.ensures l.loop-next-test.false) l.requires.in_time)
    l.until-room.ensures
    (ap (λ (x : Length). x.ticks) (l.min.ensures ∙ shorter_is _ _))
    {segments = segments_after l}
    l.go-g.ensures
    l.requires.long
    g
    l.later-t.ensures

pub go_on-requires : goal.go_on-requires
go_on-requires c = (over (goal.at.go_on-requires c).After-later-t).may_go_on

pub loop-until-preserved : goal.loop-until-preserved
loop-until-preserved c = (over (goal.at.loop-until-preserved c).After-later-t).keeps c.go_on.ensures
