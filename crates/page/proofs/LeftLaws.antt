-- What is left of a page when things are added is the same in any two outcomes: which list it is, what it holds, and the next place.
use Prim.Native.Nat.{ℕ}
use mathlib.Core.List.{List}
use mathlib.Core.Path.{◌≡◌, ap₂}
use Rattle.promise.proofs.OneOutcomeLaws.{both_are}
use Rattle.std.specs.Borrow.{GName}
use Rattle.page.specs.Page.{Added}
use Rattle.page.specs.declared.Page.{Page}

pub added_left : {A : Type 0} {more : List A} {p q r : Page A} → Added more p q → Added more p r
    → ◌≡◌ {A = GName × (List A × ℕ)} (q.list.ghost_name, (q.list.now, q.next)) (r.list.ghost_name, (r.list.now, r.next))
added_left x y = ap₂ (λ n l. (n, l)) (both_are x.same_list y.same_list) (both_are x.filled y.filled)
