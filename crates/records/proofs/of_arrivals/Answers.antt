-- `records::of_arrivals` meets its promise: after k turns the records are what the first k arrivals tell.
use mathlib.Core.Path.{◌∙◌}
use native.Mathlib.Numerals.{add-one}
use Rattle.records.proofs.GrowthLaws.{records_stay, records_more}
use Rattle.records.proofs.of_arrivals.Goals as goal
use Rattle.records.proofs.of_arrivals.Goals.{then-i-servers, else-i-servers}

pub loop-k-preserved : goal.loop-k-preserved
loop-k-preserved c =
    let a-is = c.arrival_of-a.ensures in
    let as_many = c.requires.servers_value in
    rw add-one
    (elim c.if-i-servers.branch [
      | then-i-servers w ↦
          w.records-is
          ∙ w.with_record-records.ensures
          ∙ rw (w.with_job-s.ensures, w.finish_in.ensures)
          (records_more _ _ c.loop-k.k c.loop-k.invariant a-is as_many w.if-i-servers.true)
      | else-i-servers w ↦ w.records-is ∙ records_stay _ _ c.loop-k.k c.loop-k.invariant a-is as_many w.if-i-servers.false
    ])
