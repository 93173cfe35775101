-- `text::add` meets its promise: after k bytes the page is the one that was lent with the first k added.
use Rattle.page.proofs.PageLaws.{adds_none, adds_next}
use Rattle.text.proofs.add.Goals as goal

pub loop-k-init : goal.loop-k-init
loop-k-init c = adds_none _

pub loop-k-preserved : goal.loop-k-preserved
loop-k-preserved c = adds_next _ c.loop-k.k 0 c.loop-k-test.true c.loop-k.invariant c.add_byte.ensures
