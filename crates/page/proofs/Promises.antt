-- The promise of this crate allows one outcome, and asks nothing: which list it is, what it holds at exit and the next place are given whole.
use Prim.Native.Nat.{ℕ}
use denote.Plain.{UInt}
use denote.RattleType.{RattleType}
use mathlib.Core.List.{List, [], Mem, not-mem-nil}
use mathlib.Core.Path.{◌≡◌, refl, subst}
use mir.Syntax.{Width}
use Rattle.promise.specs.AsksNothing.{AsksNothing}
use Rattle.promise.specs.OneOutcome.{OneOutcomeLent}
use Rattle.page.proofs.LeftLaws.{added_left}
use Rattle.page.proofs.Page.add.Reads as add
use Rattle.std.specs.Borrow.{GName}

-- whatever the items are; what goes before the promise is what the kit has of their type
pub add_one : (T : RattleType) (laws : _) (copy : _) (clone : _) (by : _)
    → OneOutcomeLent {X = GName × (List T.Denot × ℕ)} (add.Post T laws copy clone by) (λ l e. (e.0.now.list.ghost_name, (e.0.now.list.now, e.0.now.next)))
add_one T laws copy clone by l a x y at_x at_y p q = (refl, added_left p q)

-- of items that hold no reference; of others the kit asks that they live as long as the list is lent
pub add_asks : (T : RattleType) (laws : _) (copy : _) (clone : _) (by : _) → T.lives ≡ [] → AsksNothing (add.Pre T laws copy clone by)
add_asks T laws copy clone by none l a given k held = absurd (not-mem-nil (subst (λ (lives : List ℕ). Mem k lives) none held))

-- and so of numbers of every width, bytes among them
pub add_number_asks : (w : Width) (laws : _) (copy : _) (clone : _) (by : _) → AsksNothing (add.Pre (UInt w) laws copy clone by)
add_number_asks w laws copy clone by = add_asks (UInt w) laws copy clone by refl
