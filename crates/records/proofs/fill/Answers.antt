-- `records::fill` meets its promise: each turn puts the counts into one record more.
use mathlib.Core.Path.{◌∙◌}
use native.Mathlib.Numerals.{add-one}
use native.Mathlib.Omega.{arith}
use Rattle.records.proofs.FilledLaws.{filled_more}
use Rattle.records.proofs.fill.Goals as goal

pub loop-i-preserved : goal.loop-i-preserved
loop-i-preserved c = c.with_record-records.ensures ∙ rw add-one (filled_more _ _ _ c.loop-i.i (omega arith) c.loop-i.invariant)
