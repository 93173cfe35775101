-- A lent list that is filled from its start on: what it holds, and the place of the next.
use Rattle.std.specs.Prelude.{ℕ, zero, suc, ◌+◌, ◌-◌, min, length, take, drop, List, [], ◌∷◌, ◌++◌, ◌≡◌}
use Rattle.page.specs.declared.Page.{Page}

-- things laid over the start of a list, as many as fit; places that they do not reach stay
unfoldable pub over : {A : Type 0} → List A → List A → List A
over [] list = list
over (b ∷ more) [] = []
over (b ∷ more) (a ∷ list) = b ∷ over more list

-- a list and its next place with more added, as much as fits
unfoldable pub added : {A : Type 0} → List A → List A × ℕ → List A × ℕ
added more (list, next) = (take next list ++ over more (drop next list), next + min (length more) (length list - next))

-- a page with more added: its list is the same one
pub record Added {A : Type 0} (more : List A) (before after : Page A) : Type 0 where
  pub same_list : after.list.ghost_name ≡ before.list.ghost_name
  pub filled : (after.list.now, after.next) ≡ added more (before.list.now, before.next)

-- f 0, f 1, .., f (n − 1), one behind the other
unfoldable pub each : ℕ → (ℕ → List ℕ) → List ℕ
each zero f = []
each (suc n) f = each n f ++ f n
