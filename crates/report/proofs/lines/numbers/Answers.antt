-- `report::lines::numbers` meets its promise: after k turns the first k numbers are added.
use mathlib.Core.List.{◌++◌}
use Rattle.page.proofs.PageLaws.{adds_none, adds_each}
use Rattle.text.specs.Line.{decimal}
use Rattle.report.proofs.lines.numbers.Goals as goal

pub loop-words-init : goal.loop-words-init
loop-words-init c = adds_none _

pub loop-words-preserved : goal.loop-words-preserved
loop-words-preserved c =
    adds_each (λ n. n.0.now ++ decimal n.1) _ c.loop-words.words-index _ c.loop-words-test.true c.loop-words.invariant c.add_numbered.ensures
