-- One tick more, and that k ticks count no further than k and leave the dispatcher within the ranges.
use Prim.Native.Nat.{ℕ, zero, suc, ◌+◌, ◌-◌, ◌≤◌, ◌^◌}
use mathlib.Core.Bool.{true, false}
use mathlib.Core.Path.{◌≡◌, refl, sym, ap, subst⁻¹}
use native.Mathlib.Numerals.{add-one}
use native.Mathlib.Omega.{arith}
use Rattle.dispatcher.proofs.MoveLaws.{tick_within}
use Rattle.dispatcher.specs.Moves.{leaving, Answered, tick}
use Rattle.dispatcher.specs.declared.Turn.{Turn}
use Rattle.dispatcher.specs.declared.Turn.TheVariants.{Idle, Ran}
use Rattle.dispatcher.specs.Within.{Within}
use Rattle.dispatcher.specs.declared.Dispatcher.{Dispatcher}
use Rattle.refusal.specs.Refusals.{Said, refused, gave}
use Rattle.bench_live_ticks.specs.declared.tally.Tallied.{Tallied}
use Rattle.bench_live_ticks.specs.declared.tally.Tally.{Tally}
use Rattle.bench_live_ticks.specs.Working.Ticks.{nothing, counted, UpTo, tallied}

-- a tally and a dispatcher
abbrev pub having : Tally → Dispatcher → Tallied
having t d = record { tally = t; dispatcher = d }

pub tallied_none : (d : Dispatcher) → having nothing d ≡ tallied d 0
unfolding tallied
tallied_none d = refl

-- where a tick says and leaves so much
pub tallied_next : (start : Dispatcher) (k : ℕ) (t : Tally) (d e : Dispatcher) (said : Said Turn)
    → having t d ≡ tallied start k → leaving said e ≡ tick d → having (counted t said) e ≡ tallied start (k + 1)
unfolding tallied
tallied_next start k t d e said so_far move =
    rw (add-one k) rw (sym so_far) (ap (λ (m : Answered Turn). having (counted t m.answer) m.dispatcher) move)

pub tallied_within : {d : Dispatcher} → Within d → (k : ℕ) → Within (tallied d k).dispatcher
unfolding tallied
tallied_within ok zero = ok
tallied_within ok (suc k) = tick_within (tallied_within ok k)

-- one tick more counts no more than one
counted_up : {k : ℕ} (t : Tally) (said : Said Turn) → UpTo k t → UpTo (suc k) (counted t said)
counted_up {k} t said few = go said
  where
    up : {ran postponed idle : ℕ} → ran ≤ t.ran + 1 → postponed ≤ t.postponed + 1 → idle ≤ t.idle + 1
        → UpTo (suc k) (record { ran = ran; postponed = postponed; idle = idle })
    up r p i = record { ran = omega (arith, r, few.ran); postponed = omega (arith, p, few.postponed); idle = omega (arith, i, few.idle) }

    go : (said : Said Turn) → UpTo (suc k) (counted t said)
    go (refused number place) = up (omega arith) (omega arith) (omega arith)
    go (gave Idle) = up (omega arith) (omega arith) (omega arith)
    go (gave (Ran i deadline true)) = up (omega arith) (omega arith) (omega arith)
    go (gave (Ran i deadline false)) = up (omega arith) (omega arith) (omega arith)

pub tallied_up : (d : Dispatcher) (k : ℕ) → UpTo k (tallied d k).tally
unfolding tallied
tallied_up d zero = record { ran = omega arith; postponed = omega arith; idle = omega arith }
tallied_up d (suc k) = counted_up (tallied d k).tally (tick (tallied d k).dispatcher).answer (tallied_up d k)

-- so as long as k is below a number of 64 bits there is room for one more
pub tallied_fits : (start : Dispatcher) (d : Dispatcher) (k : ℕ) {t : Tally} → having t d ≡ tallied start k → k ≤ 2 ^ 64 - 2 → UpTo (2 ^ 64 - 2) t
tallied_fits start d k {t} so_far less =
    let few = subst⁻¹ (λ (x : Tallied). UpTo k x.tally) so_far (tallied_up start k) in
    record { ran = omega (arith, few.ran, less); postponed = omega (arith, few.postponed, less); idle = omega (arith, few.idle, less) }
