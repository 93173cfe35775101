-- The pick is the earliest deadline with ties to the lower number, said as document 01 says it, and nobody where nobody has work.
use Prim.Native.Nat.{ℕ, zero, suc, ◌≤◌, ◌<◌}
use borrow.Author.Tests.{eqb-false, le-leb, lt-leb}
use lib.Dec.{leb}
use mathlib.Core.Bool.{Bool, true, false, ◌||◌}
use mathlib.Core.Logic.{◌⊎◌, inl, inr}
use mathlib.Core.Path.{◌≡◌, refl, subst⁻¹}
use native.Mathlib.Decide.{dec_lt, ℕ_discrete}
use native.Mathlib.Nat.{not-suc-le-zero}
use native.Mathlib.Omega.{arith}
use Rattle.counting.proofs.BelowLaws.{below_suc, every_from, every_fails}
use Rattle.counting.proofs.FirstLaws.{first_is, first_none}
use Rattle.counting.proofs.TestLaws.{not_both}
use Rattle.server.proofs.PassedOverLaws.{not_passed_over_busy}
use Rattle.server.proofs.RangeLaws.{busy_charged}
use Rattle.server.specs.Server.{idle, passed_over}
use Rattle.dispatcher.specs.declared.Dispatcher.{Dispatcher}
use Rattle.dispatcher.specs.Pick.{server_at, may_run, picked, Earliest, NoneWorks}
use Rattle.dispatcher.specs.Within.{Within}

abbrev deadline_at : Dispatcher → ℕ → ℕ
deadline_at d i = (server_at d i).deadline.tick

-- How the first k + 1 go on from the first k.
module _ (d : Dispatcher) (k : ℕ) where
  pub none_more : NoneWorks d k → passed_over (server_at d k) ≡ true → NoneWorks d (suc k)
  none_more none e = below_suc (λ (j : ℕ). passed_over (server_at d j) ≡ true) k none e

  -- the first with work
  pub earliest_first : NoneWorks d k → passed_over (server_at d k) ≡ false → Earliest d (suc k) k
  earliest_first none e =
      record {
        among = omega arith;
        works = e;
        least =
            below_suc (λ (j : ℕ). passed_over (server_at d j) ≡ false → deadline_at d k ≤ deadline_at d j) k
            (λ j h w. not_both (none j h) w)
            (λ w. omega arith);
        ties =
            below_suc (λ (j : ℕ). passed_over (server_at d j) ≡ false → deadline_at d j ≡ deadline_at d k → k ≤ j) k
            (λ j h w. not_both (none j h) w)
            (λ w q. omega arith);
      }

  -- one more that is passed over, or whose deadline is no earlier
  pub earliest_stays : (i : ℕ) → Earliest d k i
      → (passed_over (server_at d k) ≡ false → (server_at d i).deadline.tick ≤ (server_at d k).deadline.tick) → Earliest d (suc k) i
  earliest_stays i e h =
      record {
        among = omega (arith, e.among);
        works = e.works;
        least = below_suc (λ (j : ℕ). passed_over (server_at d j) ≡ false → deadline_at d i ≤ deadline_at d j) k e.least h;
        ties =
            below_suc (λ (j : ℕ). passed_over (server_at d j) ≡ false → deadline_at d j ≡ deadline_at d i → i ≤ j) k e.ties
            (λ w q. omega (arith, e.among));
      }

  -- one more whose deadline is earlier
  pub earliest_moves : (i : ℕ) → Earliest d k i → passed_over (server_at d k) ≡ false
      → (server_at d k).deadline.tick < (server_at d i).deadline.tick → Earliest d (suc k) k
  earliest_moves i e w h =
      record {
        among = omega arith;
        works = w;
        least =
            below_suc (λ (j : ℕ). passed_over (server_at d j) ≡ false → deadline_at d k ≤ deadline_at d j) k
            (λ j b v. omega (arith, e.least j b v))
            (λ v. omega arith);
        ties =
            below_suc (λ (j : ℕ). passed_over (server_at d j) ≡ false → deadline_at d j ≡ deadline_at d k → k ≤ j) k
            (λ j b v q. omega (arith, e.least j b v))
            (λ v q. omega arith);
      }

-- the earliest has work
pub earliest_busy : {d : Dispatcher} {k i : ℕ} → Earliest d k i → idle (server_at d i) ≡ false
earliest_busy {d} {k} {i} e = not_passed_over_busy (server_at d i) e.works

-- and within the ranges it has budget left
pub earliest_charged : {d : Dispatcher} {i : ℕ} → Within d → Earliest d d.count i → 1 ≤ (server_at d i).remaining.ticks
earliest_charged {d} {i} ok e = busy_charged (ok.servers i e.among) (eqb-false _ _ (earliest_busy e))

-- so a lower number with work has a later deadline
earliest_lowest : {d : Dispatcher} {k i : ℕ} → Earliest d k i → (j : ℕ) → j < i → passed_over (server_at d j) ≡ false
    → deadline_at d i < deadline_at d j
earliest_lowest {d} {k} {i} e j h w = go (ℕ_discrete (deadline_at d j) (deadline_at d i))
  where
    below : j < k
    below = omega (arith, e.among)

    go : Dec (deadline_at d j ≡ deadline_at d i) → deadline_at d i < deadline_at d j
    go (yes q) = let no : ⊥ = omega (arith, e.ties j below w q) in absurd no
    go (no q) = omega (arith, e.least j below w)

-- among the first k either none works or one is the earliest
none_or_earliest : (d : Dispatcher) (k : ℕ) → NoneWorks d k ⊎ ((i : ℕ) × Earliest d k i)
none_or_earliest d zero = inl (λ j h. absurd (not-suc-le-zero h))
none_or_earliest d (suc k) = go (none_or_earliest d k) (passed_over (server_at d k)) refl
  where
    later : (i : ℕ) → Earliest d k i → passed_over (server_at d k) ≡ false → Dec (deadline_at d k < deadline_at d i)
        → NoneWorks d (suc k) ⊎ ((i : ℕ) × Earliest d (suc k) i)
    later i e w (yes h) = inr (k, earliest_moves d k i e w h)
    later i e w (no h) = inr (i, earliest_stays d k i e (λ v. omega arith))

    go : NoneWorks d k ⊎ ((i : ℕ) × Earliest d k i) → (b : Bool) → passed_over (server_at d k) ≡ b
        → NoneWorks d (suc k) ⊎ ((i : ℕ) × Earliest d (suc k) i)
    go (inl none) true w = inl (none_more d k none w)
    go (inl none) false w = inr (k, earliest_first d k none w)
    go (inr found) true w = inr (found.0, earliest_stays d k found.0 found.1 (λ v. not_both w v))
    go (inr found) false w = later found.0 found.1 w (dec_lt _ _)

module _ (d : Dispatcher) where
  no_earlier : ℕ → ℕ → Bool
  no_earlier i j = passed_over (server_at d j) || leb (deadline_at d i) (deadline_at d j)

  -- the earliest of all is picked
  pub earliest_picked : (i : ℕ) → Earliest d d.count i → picked d ≡ i
  unfolding picked may_run no_earlier
  earliest_picked i e =
      first_is d.count (may_run d) i e.among (rw e.works (every_from d.count (no_earlier i) none)) before
    where
      none : (j : ℕ) → j < d.count → no_earlier i j ≡ true
      none j h = go (passed_over (server_at d j)) refl
        where
          go : (b : Bool) → passed_over (server_at d j) ≡ b → no_earlier i j ≡ true
          go true w = rw w
          go false w = rw (w, le-leb _ _ (e.least j h w))

      before : (j : ℕ) → j < i → may_run d j ≡ false
      before j h = go (passed_over (server_at d j)) refl
        where
          go : (b : Bool) → passed_over (server_at d j) ≡ b → may_run d j ≡ false
          go true w = rw w
          go false w = rw w (every_fails d.count (no_earlier j) i e.among (rw (e.works, lt-leb _ _ (earliest_lowest e j h w))))

  -- where none works none is picked
  pub none_picked : NoneWorks d d.count → picked d ≡ d.count
  unfolding picked may_run
  none_picked none = first_none d.count (may_run d) (λ j h. rw (none j h))

  -- what is picked is the earliest
  pub picked_earliest : picked d < d.count → Earliest d d.count (picked d)
  picked_earliest h = go (none_or_earliest d d.count)
    where
      go : NoneWorks d d.count ⊎ ((i : ℕ) × Earliest d d.count i) → Earliest d d.count (picked d)
      go (inl none) = let no : ⊥ = omega (arith, none_picked none) in absurd no
      go (inr found) = subst⁻¹ (Earliest d d.count) (earliest_picked found.0 found.1) found.1

  -- and where none is picked none works
  pub picked_none : d.count ≤ picked d → NoneWorks d d.count
  picked_none h = go (none_or_earliest d d.count)
    where
      go : NoneWorks d d.count ⊎ ((i : ℕ) × Earliest d d.count i) → NoneWorks d d.count
      go (inl none) = none
      go (inr found) =
          let no : ⊥ = omega (arith, earliest_picked found.0 found.1, found.1.among) in absurd no
