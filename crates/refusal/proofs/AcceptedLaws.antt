-- What is accepted passed every test and every judgement on the way.
use Prim.Native.Nat.{ℕ}
use mathlib.Core.Bool.{Bool, true, false, cond}
use mathlib.Core.Path.{◌≡◌, refl}
use Rattle.refusal.specs.Refusals.{Said, refused, gave, accepted, and_then}
use Rattle.refusal.proofs.OnPaperLaws.{refused≢gave}

pub accepted_test : (n p : ℕ) (test : Bool) (rest : Said (Unit {0})) → cond test (refused n p) rest ≡ accepted
    → (test ≡ false) × (rest ≡ accepted)
accepted_test n p true rest e = absurd (refused≢gave e)
accepted_test n p false rest e = (refl, e)

pub accepted_both : (a b : Said (Unit {0})) → and_then a b ≡ accepted → (a ≡ accepted) × (b ≡ accepted)
accepted_both (refused n p) b e = absurd (refused≢gave e)
accepted_both (gave u) b e = (refl, e)
