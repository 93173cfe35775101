-- The promise of the method once more, as laws of its clauses in every model of the logic.
use Prim.Native.Nat.{ℕ}
use base.Logic.{emp, emp∗, id⊢, mono_l, mono_r, via}
use contract.BorrowLft.{◌⊑◌, ⊑_static}
use contract.Lifetimes.{lft_at}
use contract.Monad.{fact, fact_i}
use denote.Plain.{UInt}
use denote.RattleType.{RattleType}
use mathlib.Core.List.{List, [], ◌∷◌}
use mathlib.Core.Path.{◌≡◌, refl}
use mir.Syntax.{Dict, Width}
use Rattle.std.specs.declared.clone.Clone.{Ghosts as Copies}
use Rattle.walks.proofs.AsksNothingLaws.{no_premise}
use Rattle.walks.specs.AsksNothing.{AsksNothingWalked}
use Rattle.walks.specs.OneOutcome.{OneOutcomeLentWalked}
use Rattle.page.specs.Page.{Added}
use Rattle.page.specs.contracts.Page.add as add
use Rattle.page.proofs.LeftLaws.{added_left}
use Rattle.std.specs.Borrow.{GName}

-- whatever the items are
module _ (T : RattleType) (copies : Copies T.Denot) (copying : Dict) where
  pub add_one : OneOutcomeLentWalked {X = GName × (List T.Denot × ℕ)} (add.ended T copies copying) (λ M 𝓤. add.clauses T copies copying)
      (λ κs e. (e.0.now.list.ghost_name, (e.0.now.list.now, e.0.now.next)))
  add_one = (
    (λ κs a r e. Added (a.1.0 ∷ []) a.0.now e.0.now),
    ((λ M 𝓤 𝓛 mem run κs a g r e. id⊢ 𝓤 _), (λ κs a x y at_x at_y p q. (refl, added_left p q))),
  )

  -- that hold no reference
  pub add_asks : T.lives ≡ [] → AsksNothingWalked (add.ended T copies copying) (λ M 𝓤. add.clauses T copies copying)
  add_asks plain M 𝓤 𝓛 mem run κs a given =
      let outlives : Type 0 = lft_at 3 2 tt κs ⊑ T.lives in
      let outlived : outlives = rw plain (⊑_static _) in
      (tt, λ P. via 𝓤 _ (emp∗ 𝓤 P) (via 𝓤 _ (mono_l 𝓤 P (fact_i 𝓤 outlives (emp 𝓤) outlived)) (mono_r 𝓤 (fact 𝓤 outlives) (no_premise 𝓤 P))))

-- and so of numbers of every width, bytes among them
pub add_number_asks : (w : Width) (copies : Copies ℕ) (copying : Dict)
    → AsksNothingWalked (add.ended (UInt w) copies copying) (λ M 𝓤. add.clauses (UInt w) copies copying)
add_number_asks w copies copying = add_asks (UInt w) copies copying refl
