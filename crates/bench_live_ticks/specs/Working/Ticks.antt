-- What ticks one after the other come to, whichever way the dispatcher is passed.
use Rattle.std.specs.Prelude.{ℕ, zero, suc, ◌+◌, ◌≤◌, cond}
use Rattle.dispatcher.specs.Course.{a_tick, moved}
use Rattle.dispatcher.specs.Moves.{tick}
use Rattle.dispatcher.specs.declared.Turn.{Turn}
use Rattle.dispatcher.specs.declared.Turn.TheVariants.{Idle, Ran}
use Rattle.dispatcher.specs.declared.Dispatcher.{Dispatcher}
use Rattle.refusal.specs.Refusals.{Said, refused, gave}
use Rattle.bench_live_ticks.specs.declared.tally.Tallied.{Tallied}
use Rattle.bench_live_ticks.specs.declared.tally.Tally.{Tally}

-- the tally of no ticks
abbrev pub nothing : Tally
nothing = record { ran = 0; postponed = 0; idle = 0 }

-- a tally, and what one tick more answers
abbrev pub counted : Tally → Said Turn → Tally
counted t (refused number place) = t
counted t (gave Idle) = record { ran = t.ran; postponed = t.postponed; idle = t.idle + 1 }
counted t (gave (Ran i deadline postponed)) =
    record { ran = t.ran + 1; postponed = t.postponed + cond postponed 1 0; idle = t.idle }

-- no number of a tally is above a limit
pub record UpTo (limit : ℕ) (t : Tally) : Type 0 where
  pub ran : t.ran ≤ limit
  pub postponed : t.postponed ≤ limit
  pub idle : t.idle ≤ limit

-- one tick more
abbrev pub one_more : Tallied → Tallied
one_more t =
    record {
      tally = counted t.tally (tick t.dispatcher).answer;
      dispatcher = moved t.dispatcher a_tick;
    }

-- so many ticks from a dispatcher on
unfoldable pub tallied : Dispatcher → ℕ → Tallied
tallied d zero = record { tally = nothing; dispatcher = d }
tallied d (suc k) = one_more (tallied d k)
