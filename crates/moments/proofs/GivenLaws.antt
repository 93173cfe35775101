-- What a tick of an accepted work is given to: a server and a deadline within their ranges.
use Prim.Native.Nat.{ℕ, ◌+◌, ◌*◌, ◌≤◌, ◌<◌}
use borrow.Author.Tests.{ltb-true}
use lib.Dec.{eqb, ltb}
use mathlib.Core.Bool.{Bool, true, false}
use mathlib.Core.List.{List}
use mathlib.Core.Path.{◌≡◌, refl, subst}
use native.Mathlib.Omega.{arith}
use Rattle.clock.specs.declared.Moment.{Moment}
use Rattle.dispatcher.specs.Moves.{tick, ran}
use Rattle.dispatcher.specs.Pick.{picked}
use Rattle.dispatcher.specs.Within.{Within}
use Rattle.dispatcher.specs.declared.Dispatcher.{Dispatcher}
use Rattle.history.specs.Choice.{Choice, nobody, given}
use Rattle.judgement.proofs.FitLaws.{Fit, judged_fit}
use Rattle.judgement.specs.Judgement.{judged}
use Rattle.refusal.specs.Refusals.{accepted}
use Rattle.server.proofs.RangeLaws.{deadline_below}
use Rattle.sizes.specs.Sizes.{clock_end, most_frame, most_servers}
use Rattle.workfile.specs.Work.{Work, work}
use Rattle.moments.proofs.MomentLaws.{at_within, taken_within}
use Rattle.moments.specs.Moments.{ready, turn, choice_of, history}

-- the ranges of what a tick is given to
abbrev pub InRange : Choice → Type 0
InRange nobody = Unit {0}
InRange (given i d) = (i < most_servers) × (d.tick ≤ most_frame * (clock_end + 1))

tick_in_range : (d : Dispatcher) → Within d → InRange (choice_of (tick d).answer)
unfolding tick ran
tick_in_range d ok = go (eqb d.clock.tick clock_end) refl (ltb (picked d) d.count) refl
  where
    go : (e : Bool) → eqb d.clock.tick clock_end ≡ e → (p : Bool) → ltb (picked d) d.count ≡ p
        → InRange (choice_of (tick d).answer)
    go true e p q = rw e tt
    go false e true q =
        let known : picked d < d.count = ltb-true _ _ q in
        rw (e, q) (omega (arith, ok.count), deadline_below (ok.servers (picked d) known) ok.clock)
    go false e false q = rw (e, q) tt

-- what the history of an accepted work gives a tick to is in range
pub history_in_range : {w : Work} {places : ℕ} → Fit w places → (t : ℕ) → InRange (history w t)
unfolding history turn ready
history_in_range {w} fit t = tick_in_range (ready w t) (taken_within w w.arrivals (at_within w fit t))

-- so for an accepted file: a server number below 64, under a deadline of at most 604,800 × 2,419,201
pub given_in_range : (file : List ℕ) (places : ℕ) → judged file places ≡ accepted → (t i : ℕ) (d : Moment)
    → history (work file) t ≡ given i d → (i < most_servers) × (d.tick ≤ most_frame * (clock_end + 1))
given_in_range file places e t i d is = subst InRange is (history_in_range (judged_fit file places e) t)
