-- `text::add_numbered` meets its promise: one behind the other.
use Rattle.page.proofs.PageLaws.{adds_then}
use Rattle.text.proofs.add_numbered.Goals as goal

pub returns : goal.returns
returns c = adds_then c.add.ensures c.add_number.ensures
