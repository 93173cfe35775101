-- `text::add` meets its promise: after k bytes the page is the one that was lent with the first k added.
use lib.ListN.{take}
use Rattle.page.specs.Page.{Added}
use Rattle.text.proofs.add.Given as goal

abbrev pub invariant-loop-k : goal.invariant-loop-k
invariant-loop-k l = Added (take l.k l.bytes) l.initial.text l.text
