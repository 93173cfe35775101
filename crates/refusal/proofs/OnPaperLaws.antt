-- What is said on paper leaves one answer: two answers that say the same are the same.
use Prim.Native.Nat.{ℕ}
use lib.Dec.{eqb}
use mathlib.Core.Bool.{cond}
use mathlib.Core.Path.{◌≡◌, refl, sym, ap, subst, ◌∙◌}
use Rattle.refusal.specs.declared.Refusal.{Refusal}
use Rattle.refusal.specs.declared.Refusal.TheVariants.{FileLength, Sizes, Layout, FaultyServer, Shares, FaultyArrival, BackwardArrival, LateArrival, FinishList, ClockEnd, WaitingWork}
use Rattle.std.specs.Prelude.{Result, Ok, Err}
use Rattle.refusal.specs.Refusals.{number_of, place_of, Said, refused, gave, on_paper}

-- the refusal of a number at a place
pub refusal_of : ℕ → ℕ → Refusal
refusal_of n k =
    cond (eqb n 1) FileLength
    (cond (eqb n 3) Layout
    (cond (eqb n 4) (FaultyServer k)
    (cond (eqb n 5) Shares
    (cond (eqb n 6) (FaultyArrival k)
    (cond (eqb n 7) (BackwardArrival k)
    (cond (eqb n 8) (LateArrival k)
    (cond (eqb n 9) FinishList
    (cond (eqb n 10) ClockEnd
    (cond (eqb n 11) WaitingWork Sizes)))))))))

-- number and place tell a refusal
pub refusal_back : (r : Refusal) → refusal_of (number_of r) (place_of r) ≡ r
unfolding refusal_of
refusal_back FileLength = refl
refusal_back Sizes = refl
refusal_back Layout = refl
refusal_back (FaultyServer k) = refl
refusal_back Shares = refl
refusal_back (FaultyArrival k) = refl
refusal_back (BackwardArrival k) = refl
refusal_back (LateArrival k) = refl
refusal_back FinishList = refl
refusal_back ClockEnd = refl
refusal_back WaitingWork = refl

answer_of : {A : Type 0} → Said A → Result A Refusal
answer_of (refused n k) = Err (refusal_of n k)
answer_of (gave a) = Ok a

answer_back : {A : Type 0} (v : Result A Refusal) → answer_of (on_paper v) ≡ v
unfolding answer_of
answer_back (Ok a) = refl
answer_back (Err r) = ap Err (refusal_back r)

-- what it says on paper tells an answer
pub answer_told : {A : Type 0} (v w : Result A Refusal) → on_paper v ≡ on_paper w → v ≡ w
answer_told v w p = sym (answer_back v) ∙ ap answer_of p ∙ answer_back w

-- what is refused was not given
abbrev IsRefused : {A : Type 0} → Said A → Type 0
IsRefused (refused n k) = Unit {0}
IsRefused (gave a) = ⊥

pub refused≢gave : {A : Type 0} {n k : ℕ} {a : A} → refused n k ≡ gave a → ⊥
refused≢gave e = subst IsRefused e tt
