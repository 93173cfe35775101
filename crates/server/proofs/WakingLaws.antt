-- What a server that takes work answers, case by case, and what that tells.
use Prim.Native.Nat.{◌*◌, ◌≤◌}
use borrow.Author.Tests.{eqb-true, le-leb, eq-eqb, ne_eqb}
use mathlib.Core.Bool.{Bool, true, false, cond}
use mathlib.Core.Path.{◌≡◌, refl, sym, ◌∙◌, ap, subst}
use native.Mathlib.Nat.{mul_comm}
use native.Mathlib.Omega.{arith}
use Rattle.clock.specs.Clock.{later, until}
use Rattle.clock.specs.declared.Length.{Length}
use Rattle.clock.specs.declared.Moment.{Moment}
use Rattle.server.specs.declared.Server.{Server}
use Rattle.server.specs.declared.Waking.{Waking}
use Rattle.server.specs.declared.Waking.TheVariants.{Kept, Renewed, Busy}
use Rattle.server.specs.Moves.{renews, with_work, arrived, Woke, kept_deadline, renewed_deadline, was_busy, woke, woke_of}
use Rattle.server.specs.Server.{idle}
use Rattle.server.proofs.MoveLaws.{renews_is, arrived_kept}

pub woke_busy : (s : Server) (t : Moment) → (s.waiting.ticks ≡ 0 → ⊥) → woke s t ≡ was_busy
unfolding woke
woke_busy s t h = rw (ne_eqb _ _ h)

pub woke_renewed : (s : Server) (t : Moment) → s.waiting.ticks ≡ 0 → renews s t ≡ true → woke s t ≡ renewed_deadline
unfolding woke
woke_renewed s t h e = rw (eq-eqb _ _ h, e)

pub woke_kept : (s : Server) (t : Moment) → s.waiting.ticks ≡ 0 → renews s t ≡ false → woke s t ≡ kept_deadline
unfolding woke
woke_kept s t h e = rw (eq-eqb _ _ h, e)

-- An idle server is renewed where "c × T is at least (d − t) × Q",
pub renewed_at_least : (s : Server) (t : Moment) → s.waiting.ticks ≡ 0
    → (until t s.deadline).ticks * s.budget.ticks ≤ s.remaining.ticks * s.period.ticks → woke s t ≡ renewed_deadline
renewed_at_least s t h enough = woke_renewed s t h (renews_is s t ∙ le-leb _ _ enough)

-- also where it has its whole budget and a deadline that is T ahead, and so gets nothing new
pub renewed_as_it_was : (s : Server) (t : Moment) → s.waiting.ticks ≡ 0 → s.remaining ≡ s.budget
    → s.deadline ≡ later t s.period → woke s t ≡ renewed_deadline
renewed_as_it_was s t h whole ahead =
    let off : (until t (later t s.period)).ticks ≡ s.period.ticks = omega arith in
    renewed_at_least s t h (rw (ahead, whole, off) (omega (arith, mul_comm s.period.ticks s.budget.ticks)))

-- A server that answers that it kept its deadline was idle, and has the work and nothing else that is new.
abbrev WokeKept : Woke → Type 0
WokeKept kept_deadline = Unit {0}
WokeKept renewed_deadline = ⊥
WokeKept was_busy = ⊥

pub kept_was : (s : Server) (t : Moment) → woke s t ≡ kept_deadline → (idle s ≡ true) × (renews s t ≡ false)
unfolding woke
kept_was s t = go (idle s) (renews s t)
  where
    go : (i k : Bool) → cond i (cond k renewed_deadline kept_deadline) was_busy ≡ kept_deadline → (i ≡ true) × (k ≡ false)
    go true false e = (refl, refl)
    go true true e = absurd (subst WokeKept (sym e) tt)
    go false k e = absurd (subst WokeKept (sym e) tt)

pub kept_arrived : (s : Server) (t : Moment) (cost : Length) → woke s t ≡ kept_deadline → arrived s t cost ≡ with_work s cost
kept_arrived s t cost e = let was = kept_was s t e in arrived_kept s t cost (eqb-true _ _ was.0) was.1

-- What it says on paper tells an answer.
pub waking_of : Woke → Waking
waking_of kept_deadline = Kept
waking_of renewed_deadline = Renewed
waking_of was_busy = Busy

pub waking_back : (w : Waking) → waking_of (woke_of w) ≡ w
unfolding waking_of
waking_back Kept = refl
waking_back Renewed = refl
waking_back Busy = refl

pub waking_told : (v w : Waking) → woke_of v ≡ woke_of w → v ≡ w
waking_told v w e = sym (waking_back v) ∙ ap waking_of e ∙ waking_back w
