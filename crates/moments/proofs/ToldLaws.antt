-- A tick's answer tells of the server that ran whether its deadline grew, and no other server's grows. So whoever counts the answers
-- counts the postponements.
use Prim.Native.Nat.{ℕ, ◌<◌}
use borrow.Author.Tests.{eqb-true, eqb-false, ltb-true, ltb-false, le-ltb, eq-eqb, ne_eqb}
use lib.Dec.{eqb, ltb}
use lib.ListN.{get_or, set}
use lib.Seq.{get_or-set_same, get_or-set_other}
use mathlib.Core.Bool.{Bool, true, false, ◌&&◌}
use mathlib.Core.List.{List}
use mathlib.Core.Path.{◌≡◌, refl, ◌∙◌, ap}
use native.Mathlib.Decide.{ℕ_discrete}
use native.Mathlib.Omega.{arith}
use Rattle.clock.specs.declared.Moment.{Moment}
use Rattle.counting.proofs.CountLaws.{count_same}
use Rattle.counting.specs.Count.{count}
use Rattle.dispatcher.proofs.MoveLaws.{tick_ended, tick_ran, tick_idle}
use Rattle.dispatcher.specs.Moves.{ran, tick}
use Rattle.dispatcher.specs.declared.Turn.{Turn}
use Rattle.dispatcher.specs.declared.Turn.TheVariants.{Idle, Ran}
use Rattle.dispatcher.specs.Pick.{server_at, picked}
use Rattle.dispatcher.specs.Within.{Within}
use Rattle.dispatcher.specs.declared.Dispatcher.{Dispatcher}
use Rattle.judgement.proofs.FitLaws.{Fit, judged_fit}
use Rattle.judgement.specs.Judgement.{judged}
use Rattle.refusal.specs.Refusals.{Said, refused, gave, accepted}
use Rattle.server.proofs.MoveLaws.{served_grows}
use Rattle.server.specs.Moves.{spends_last, served}
use Rattle.server.specs.Server.{vacant}
use Rattle.sizes.specs.Sizes.{clock_end}
use Rattle.workfile.specs.Work.{Work, work}
use Rattle.moments.proofs.MomentLaws.{at_within, taken_within}
use Rattle.moments.specs.Moments.{at_moment, ready, turn, postpones, postponed_by}

-- whether an answer tells of server i that it was postponed
abbrev pub tells : ℕ → Said Turn → Bool
tells i (refused number place) = false
tells i (gave Idle) = false
tells i (gave (Ran j deadline postponed)) = eqb i j && postponed

-- One tick.
module _ {d : Dispatcher} (ok : Within d) (i : ℕ) where
  -- whether it leaves server i a later deadline
  abbrev grows : Bool
  grows = ltb (server_at d i).deadline.tick (server_at (tick d).dispatcher i).deadline.tick

  -- where server p is served
  served_tells : (p : ℕ) → p < d.count → Dec (i ≡ p)
      → ltb (server_at d i).deadline.tick (get_or (set d.servers p (served (server_at d p))) i vacant).deadline.tick
      ≡ (eqb i p && spends_last (server_at d p))
  served_tells p b (yes q) =
      rw (
        q,
        get_or-set_same d.servers p (served (server_at d p)) vacant (omega (arith, ok.places, ok.count)),
        eq-eqb p p refl,
      )
      (let r = ok.servers p b in served_grows (server_at d p) (omega (arith, r.budget, r.fits)))
  served_tells p b (no q) =
      rw (get_or-set_other d.servers p i (served (server_at d p)) vacant q, ne_eqb i p q)
      (le-ltb (server_at d i).deadline.tick (server_at d i).deadline.tick (omega arith))

  tick_tells : grows ≡ tells i (tick d).answer
  unfolding ran
  tick_tells = go (eqb d.clock.tick clock_end) refl (ltb (picked d) d.count) refl
    where
      go : (e : Bool) → eqb d.clock.tick clock_end ≡ e → (p : Bool) → ltb (picked d) d.count ≡ p → grows ≡ tells i (tick d).answer
      go true e p q = rw (tick_ended d (eqb-true _ _ e)) (le-ltb (server_at d i).deadline.tick (server_at d i).deadline.tick (omega arith))
      go false e true q =
          rw (tick_ran d (eqb-false _ _ e) (ltb-true _ _ q)) (served_tells (picked d) (ltb-true _ _ q) (ℕ_discrete i (picked d)))
      go false e false q =
          rw (tick_idle d (eqb-false _ _ e) (ltb-false _ _ q))
          (le-ltb (server_at d i).deadline.tick (server_at d i).deadline.tick (omega arith))

-- The run of an accepted work.
module _ {w : Work} {places : ℕ} (fit : Fit w places) where
  pub postpones_told : (i u : ℕ) → postpones w i u ≡ tells i (turn w u)
  unfolding at_moment ready turn
  postpones_told i u = tick_tells (taken_within w w.arrivals (at_within w fit u)) i

  -- the postponements, counted by the answers
  pub postponed_told : (i t : ℕ) → postponed_by w i t ≡ count t (λ u. tells i (turn w u))
  unfolding postponed_by
  postponed_told i t = count_same t (postpones w i) (λ u. tells i (turn w u)) (λ u b. postpones_told i u)

  module _ (u : ℕ) {i : ℕ} {deadline : Moment} {flag : Bool} (e : turn w u ≡ gave (Ran i deadline flag)) where
    pub own_told : postpones w i u ≡ flag
    own_told = postpones_told i u ∙ ap (tells i) e ∙ rw (eq-eqb i i refl)

    pub other_not : (j : ℕ) → (j ≡ i → ⊥) → postpones w j u ≡ false
    other_not j n = postpones_told j u ∙ ap (tells j) e ∙ rw (ne_eqb j i n)

  pub idle_not : (u : ℕ) → turn w u ≡ gave Idle → (j : ℕ) → postpones w j u ≡ false
  idle_not u e j = postpones_told j u ∙ ap (tells j) e

-- So of an accepted file: what a tick answers is whether the server that ran was postponed, and no other was.
pub answer_tells : (file : List ℕ) (places : ℕ) → judged file places ≡ accepted → (u i : ℕ) (deadline : Moment) (flag : Bool)
    → turn (work file) u ≡ gave (Ran i deadline flag)
    → (postpones (work file) i u ≡ flag) × ((j : ℕ) → (j ≡ i → ⊥) → postpones (work file) j u ≡ false)
answer_tells file places e u i deadline flag is = let fit = judged_fit file places e in (own_told fit u is, other_not fit u is)
