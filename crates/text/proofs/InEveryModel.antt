-- The promises of this crate once more, as laws of their clauses in every model of the logic.
use Prim.Native.Nat.{ℕ}
use base.Logic.{id⊢}
use mathlib.Core.List.{List, ◌++◌}
use mathlib.Core.Path.{refl}
use Rattle.page.proofs.LeftLaws.{added_left}
use Rattle.page.specs.Page.{Added}
use Rattle.walks.proofs.AsksNothingLaws.{no_premise}
use Rattle.walks.specs.AsksNothing.{AsksNothingWalked}
use Rattle.walks.specs.OneOutcome.{OneOutcomeLentWalked}
use Rattle.text.specs.Line.{decimal}
use Rattle.text.specs.contracts.add as add
use Rattle.text.specs.contracts.add_number as add-number
use Rattle.text.specs.contracts.add_numbered as add-numbered
use Rattle.std.specs.Borrow.{GName}

pub add_one : OneOutcomeLentWalked {X = GName × (List ℕ × ℕ)} add.ended (λ M 𝓤. add.clauses)
    (λ κs e. (e.0.now.list.ghost_name, (e.0.now.list.now, e.0.now.next)))
add_one = (
  (λ κs a r e. Added a.1.0.now a.0.now e.0.now),
  ((λ M 𝓤 𝓛 mem run κs a g r e. id⊢ 𝓤 _), (λ κs a x y at_x at_y p q. (refl, added_left p q))),
)

pub add_asks : AsksNothingWalked add.ended (λ M 𝓤. add.clauses)
add_asks M 𝓤 𝓛 mem run κs a given = (tt, no_premise 𝓤)

pub add_number_one : OneOutcomeLentWalked {X = GName × (List ℕ × ℕ)} add-number.ended (λ M 𝓤. add-number.clauses)
    (λ κs e. (e.0.now.list.ghost_name, (e.0.now.list.now, e.0.now.next)))
add_number_one = (
  (λ κs a r e. Added (decimal a.1.0) a.0.now e.0.now),
  ((λ M 𝓤 𝓛 mem run κs a g r e. id⊢ 𝓤 _), (λ κs a x y at_x at_y p q. (refl, added_left p q))),
)

pub add_number_asks : AsksNothingWalked add-number.ended (λ M 𝓤. add-number.clauses)
add_number_asks M 𝓤 𝓛 mem run κs a given = (tt, no_premise 𝓤)

pub add_numbered_one : OneOutcomeLentWalked {X = GName × (List ℕ × ℕ)} add-numbered.ended (λ M 𝓤. add-numbered.clauses)
    (λ κs e. (e.0.now.list.ghost_name, (e.0.now.list.now, e.0.now.next)))
add_numbered_one = (
  (λ κs a r e. Added (a.1.0.now ++ decimal a.1.1.0) a.0.now e.0.now),
  ((λ M 𝓤 𝓛 mem run κs a g r e. id⊢ 𝓤 _), (λ κs a x y at_x at_y p q. (refl, added_left p q))),
)

pub add_numbered_asks : AsksNothingWalked add-numbered.ended (λ M 𝓤. add-numbered.clauses)
add_numbered_asks M 𝓤 𝓛 mem run κs a given = (tt, no_premise 𝓤)
