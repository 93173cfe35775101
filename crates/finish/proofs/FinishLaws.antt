-- A finish is known as soon as the ticks are served: never before, at that very moment, and unchanged after.
use Prim.Native.Nat.{ℕ, zero, suc, ◌-◌, ◌≤◌, ◌<◌}
use borrow.Author.Tests.{eqb-true, leb-true, eq-eqb, ne_eqb, le-leb, lt-leb}
use lib.Dec.{eqb, leb}
use mathlib.Core.Bool.{Bool, true, false, cond}
use mathlib.Core.Path.{◌≡◌, refl, sym, ◌∙◌, subst}
use native.Mathlib.Decide.{dec_lt}
use native.Mathlib.Nat.{add-sub_of_le, not-suc-le-zero}
use native.Mathlib.Omega.{arith}
use Rattle.clock.specs.Clock.{moment}
use Rattle.clock.specs.declared.Moment.{Moment}
use Rattle.counting.proofs.FirstLaws.{first_is, first_none, first_more, first_passes}
use Rattle.counting.specs.First.{first}
use Rattle.history.proofs.ChoiceLaws.{served_start, served_step, served_more}
use Rattle.history.specs.Choice.{History, ticks_served}
use Rattle.finish.specs.Finish.{first_served, is_open, finished_at, served_by}

-- Of server i and an amount of work.
module _ (h : History) (i work : ℕ) where
  -- the ticks before an earlier moment are no more
  pub served_to : (t u : ℕ) → t ≤ u → ticks_served h i t ≤ ticks_served h i u
  served_to t u le = subst (λ (v : ℕ). ticks_served h i t ≤ ticks_served h i v) (add-sub_of_le le) (served_more h i t (u - t))

  abbrev reached : ℕ → Bool
  reached t = eqb (ticks_served h i t) work

  not_yet : (t u : ℕ) → u ≤ t → ticks_served h i t < work → reached u ≡ false
  not_yet t u le less =
      ne_eqb (ticks_served h i u) work (λ (e : ticks_served h i u ≡ work). let no : ⊥ = omega (arith, served_to u t le) in absurd no)

  -- ticks come one at a time, so what is served by t was reached on the way
  first_reached : (t : ℕ) → work ≤ ticks_served h i t → first (suc t) reached < suc t
  first_reached zero b = rw here (omega arith)
    where
      here : first 1 reached ≡ 0
      here =
          first_is 1 reached 0 (omega arith) (eq-eqb (ticks_served h i 0) work (omega (arith, served_start h i)))
          (λ j q. absurd (not-suc-le-zero q))
  first_reached (suc t) b = go (dec_lt (ticks_served h i t) work) (first_reached t)
    where
      go : Dec (ticks_served h i t < work) → (work ≤ ticks_served h i t → first (suc t) reached < suc t)
          → first (suc (suc t)) reached < suc (suc t)
      go (no more) before =
          let found : first (suc t) reached < suc t = before (omega arith) in
          omega (arith, first_more (suc t) (suc (suc t)) reached found (omega arith))
      go (yes less) before =
          let here : first (suc (suc t)) reached ≡ suc t
          = first_is (suc (suc t)) reached (suc t) (omega arith)
          (eq-eqb (ticks_served h i (suc t)) work (omega (arith, (served_step h i t).1)))
          (λ j q. not_yet t j (omega arith) less) in
          omega arith

  -- never before
  pub finish_open : (t : ℕ) → ticks_served h i t < work → served_by h i work t ≡ is_open
  unfolding served_by first_served
  finish_open t less = rw (first_none (suc t) reached (λ u b. not_yet t u (omega arith) less), lt-leb (suc t) t (omega arith))

  -- unchanged after
  pub finish_stays : (t u : ℕ) → work ≤ ticks_served h i t → t ≤ u → served_by h i work u ≡ served_by h i work t
  unfolding served_by first_served
  finish_stays t u more le =
      let found : first (suc t) reached < suc t = first_reached t more in
      let stays : first (suc u) reached ≡ first (suc t) reached = first_more (suc t) (suc u) reached found (omega arith) in
      rw (stays, le-leb (first (suc t) reached) t (omega arith), le-leb (first (suc t) reached) u (omega arith))

  -- and at that very moment: the tick before u was not yet enough
  pub finish_now : (u : ℕ) → ticks_served h i u < work → ticks_served h i (suc u) ≡ work → served_by h i work (suc u) ≡ finished_at (moment (suc u))
  unfolding served_by first_served
  finish_now u less e =
      let here : first (suc (suc u)) reached ≡ suc u
      = first_is (suc (suc u)) reached (suc u) (omega arith) (eq-eqb (ticks_served h i (suc u)) work e) (λ j q. not_yet u j (omega arith) less) in
      rw (here, le-leb (suc u) (suc u) (omega arith))

  -- while the server is not served
  pub finish_unserved : (t u : ℕ) → t ≤ u → ticks_served h i u ≡ ticks_served h i t → served_by h i work u ≡ served_by h i work t
  finish_unserved t u le e = go (dec_lt (ticks_served h i t) work)
    where
      go : Dec (ticks_served h i t < work) → served_by h i work u ≡ served_by h i work t
      go (yes less) = finish_open u (omega arith) ∙ sym (finish_open t less)
      go (no more) = finish_stays t u (omega arith) le

  -- what has finished at t has its work served by t, which is no later than the horizon
  pub finish_served : (N t : ℕ) → served_by h i work N ≡ finished_at (moment t) → (ticks_served h i t ≡ work) × (t ≤ N)
  unfolding served_by first_served
  finish_served N t e = go (leb (first (suc N) reached) N) refl
    where
      go : (b : Bool) → leb (first (suc N) reached) N ≡ b → (ticks_served h i t ≡ work) × (t ≤ N)
      go true l =
          let by : first (suc N) reached ≤ N = leb-true (first (suc N) reached) N l in
          let same : finished_at (moment (first (suc N) reached)) ≡ finished_at (moment t)
          = subst (λ (b : Bool). cond b (finished_at (moment (first (suc N) reached))) is_open ≡ finished_at (moment t)) l e in
          let at_t : moment (first (suc N) reached) ≡ moment t = cc in
          subst (λ (u : Moment). (ticks_served h i u.tick ≡ work) × (u.tick ≤ N)) at_t
          (eqb-true (ticks_served h i (first (suc N) reached)) work (first_passes (suc N) reached (omega arith)), by)
      go false l =
          let never : is_open ≡ finished_at (moment t)
          = subst (λ (b : Bool). cond b (finished_at (moment (first (suc N) reached))) is_open ≡ finished_at (moment t)) l e in
          let none : ◌≡◌ {A = ℕ} 0 1 = cc in
          let no : ⊥ = omega arith in
          absurd no

  -- and what is served by t has finished by then, when that was served
  pub finish_found : (t : ℕ) → work ≤ ticks_served h i t → (u : ℕ) × (served_by h i work t ≡ finished_at (moment u)) × (ticks_served h i u ≡ work)
  unfolding served_by first_served
  finish_found t more =
      let found : first (suc t) reached < suc t = first_reached t more in (
        first (suc t) reached,
        rw (le-leb (first (suc t) reached) t (omega arith)),
        eqb-true (ticks_served h i (first (suc t) reached)) work (first_passes (suc t) reached found),
      )

  -- so it finishes after every moment by which less was served
  pub finish_after : (N t u : ℕ) → served_by h i work N ≡ finished_at (moment t) → ticks_served h i u < work → u < t
  finish_after N t u e less = go (dec_lt u t)
    where
      go : Dec (u < t) → u < t
      go (yes l) = l
      go (no l) = let no : ⊥ = omega (arith, (finish_served N t e).0, served_to t u (omega arith)) in absurd no

  -- "Zero is never a finish."
  pub finish_not_zero : (N t : ℕ) → 0 < work → served_by h i work N ≡ finished_at (moment t) → 0 < t
  finish_not_zero N t some e = finish_after N t 0 e (omega (arith, served_start h i))
