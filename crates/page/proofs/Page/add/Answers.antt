-- `page::Page::add` meets its promise: the one test asks whether there is room.
use mathlib.Core.Path.{refl}
use Rattle.page.proofs.PageLaws.{added_room, added_full}
use Rattle.page.proofs.Page.add.Goals as goal

pub returns-then-self : goal.returns-then-self
returns-then-self g c = record { same_list = refl; filled = added_room _ _ _ c.if-self.true }

pub returns-else-self : goal.returns-else-self
returns-else-self g c = record { same_list = refl; filled = added_full _ _ _ c.if-self.false }
