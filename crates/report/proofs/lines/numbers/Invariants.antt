-- `report::lines::numbers` meets its promise: after k turns the first k numbers are added.
use lib.ListN.{take}
use mathlib.Core.List.{◌++◌}
use Rattle.std.specs.List.{flat_map}
use Rattle.page.specs.Page.{Added}
use Rattle.text.specs.Line.{decimal}
use Rattle.report.proofs.lines.numbers.Given as goal

abbrev pub invariant-loop-words : goal.invariant-loop-words
invariant-loop-words l = Added (flat_map (λ n. n.0.now ++ decimal n.1) (take l.words-index l.all)) l.initial.text l.text
