-- Each promise of this crate allows one outcome, and asks nothing: which list it is, what it holds at exit and the next place are given whole.
use Prim.Native.Nat.{ℕ}
use mathlib.Core.List.{List}
use mathlib.Core.Path.{refl}
use Rattle.page.proofs.LeftLaws.{added_left}
use Rattle.promise.specs.AsksNothing.{AsksNothing}
use Rattle.promise.specs.OneOutcome.{OneOutcomeLent}
use Rattle.text.proofs.add.Reads as add
use Rattle.text.proofs.add_number.Reads as add-number
use Rattle.text.proofs.add_numbered.Reads as add-numbered
use Rattle.std.specs.Borrow.{GName}

pub add_one : OneOutcomeLent {X = GName × (List ℕ × ℕ)} add.Post (λ l e. (e.0.now.list.ghost_name, (e.0.now.list.now, e.0.now.next)))
add_one l a x y at_x at_y p q = (refl, added_left p q)

pub add_asks : AsksNothing add.Pre
add_asks l a given = tt

pub add_number_one : OneOutcomeLent {X = GName × (List ℕ × ℕ)} add-number.Post (λ l e. (e.0.now.list.ghost_name, (e.0.now.list.now, e.0.now.next)))
add_number_one l a x y at_x at_y p q = (refl, added_left p q)

pub add_number_asks : AsksNothing add-number.Pre
add_number_asks l a given = tt

pub add_numbered_one : OneOutcomeLent {X = GName × (List ℕ × ℕ)} add-numbered.Post
    (λ l e. (e.0.now.list.ghost_name, (e.0.now.list.now, e.0.now.next)))
add_numbered_one l a x y at_x at_y p q = (refl, added_left p q)

pub add_numbered_asks : AsksNothing add-numbered.Pre
add_numbered_asks l a given = tt
