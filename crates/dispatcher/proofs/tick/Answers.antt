-- `dispatcher::tick` meets its promise: its three ways are the three cases of the definition, and what the definition gives is within
-- the ranges.
use mathlib.Core.Path.{sym, ◌∙◌}
use native.Mathlib.Omega.{arith}
use Rattle.dispatcher.proofs.MoveLaws.{tick_ended, tick_ran, tick_idle, tick_within, and_within}
use Rattle.dispatcher.proofs.PickLaws.{earliest_picked, none_picked}
use Rattle.dispatcher.proofs.tick.Goals as goal

pub returns-then-d-eq-CLOCK_END : goal.returns-then-d-eq-CLOCK_END
returns-then-d-eq-CLOCK_END c =
    let both = and_within (tick_within c.requires) (sym (tick_ended _ c.if-d-eq-CLOCK_END.true)) in
    record { result_value = both.0; within = both.1 }

pub returns-in-Some : goal.returns-in-Some
returns-in-Some c =
    let first = c.in-Some.ensures in
    let picks = earliest_picked c.args.d c.in-Some.i first in
    let both =
    and_within (tick_within c.requires)
    (c.run.ensures ∙ rw (sym picks) (sym (tick_ran _ c.if-d-eq-CLOCK_END.false (omega (arith, picks, first.among))))) in
    record { result_value = both.0; within = both.1 }

pub returns-in-None : goal.returns-in-None
returns-in-None c =
    let both =
    and_within (tick_within c.requires)
    (c.pass.ensures ∙ sym (tick_idle _ c.if-d-eq-CLOCK_END.false (omega (arith, none_picked c.args.d c.in-None.ensures)))) in
    record { result_value = both.0; within = both.1 }
