-- `opening::open_table` meets its promise: the answer is the judgement, and each of its two cases hands back its dispatcher.
use mathlib.Core.Path.{sym}
use Rattle.dispatcher.proofs.MoveLaws.{and_within}
use Rattle.dispatcher.proofs.StartLaws.{start_sheet}
use Rattle.opening.proofs.OpeningLaws.{opening_accepted, opening_refused, opening_within}
use Rattle.opening.proofs.open_table.Goals as goal

pub returns-in-Ok : goal.returns-in-Ok
returns-in-Ok c =
    let both =
    and_within (opening_within _ _)
    (rw (c.at_start.ensures, c.in-Ok.ensures.1, start_sheet) (sym (opening_accepted _ _ c.in-Ok.ensures.0))) in
    record { result_value = both.0; within = both.1 }

pub returns-in-Err : goal.returns-in-Err
returns-in-Err c =
    let both = and_within (opening_within _ _) (rw c.no_servers.ensures (sym (opening_refused _ _ _ _ c.in-Err.ensures))) in
    record { result_value = both.0; within = both.1 }
