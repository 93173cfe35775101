-- What a private function of the judgement promises: the rest of the judgement, behind the table.
use Rattle.std.specs.Prelude.{ℕ}
use Rattle.refusal.specs.Refusals.{Said, and_then}
use Rattle.workfile.specs.Work.{Work}
use Rattle.judgement.specs.Judgement.{arrivals_judged, finishes_judged}

-- the arrivals in order, then 9
abbrev pub list_judged : Work → ℕ → Said (Unit {0})
list_judged w places = and_then (arrivals_judged w w.arrivals) (finishes_judged w places)
