-- Laws of the records of a work file: behind the end there is nothing, which counts 0, so that all places there hold the same.
use Prim.Native.Nat.{ℕ, ◌≤◌, min}
use borrow.Author.Tests.{leb-true, leb-false}
use lib.Dec.{leb}
use lib.ListN.{length}
use mathlib.Core.Bool.{Bool, true, false}
use mathlib.Core.List.{List}
use mathlib.Core.Path.{◌≡◌, refl, sym, ◌∙◌, ap}
use native.Mathlib.Omega.{arith}

-- what is the same everywhere behind the end is the same at two places that are one up to the end
pub up_to_end : {X : Type 0} (of : List ℕ → ℕ → X) (nothing : X) → ((file : List ℕ) (at : ℕ) → length file ≤ at → of file at ≡ nothing)
    → (file : List ℕ) (p q : ℕ) → min (length file) p ≡ min (length file) q → of file p ≡ of file q
up_to_end of nothing behind file p q same = go (leb (length file) p) refl
  where
    go : (b : Bool) → leb (length file) p ≡ b → of file p ≡ of file q
    go true so =
        let over = leb-true (length file) p so in
        behind file p over ∙ sym (behind file q (omega (arith, same, over)))
    go false so = ap (of file) (omega (arith, same, leb-false (length file) p so))
