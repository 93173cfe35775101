-- No move of one server raises its potential, and a tick that it gets lowers it by the frame: the facts of one server behind demand 3.
-- The clock is a parameter throughout, and a server that rests is idle or held back with its budget at 0.
use Prim.Native.Nat.{ℕ, ◌+◌, ◌-◌, ◌*◌, ◌≤◌, ◌<◌}
use borrow.Author.Tests.{eq-eqb, eqb-true, leb-true, leb-false, le-leb, lt-leb}
use mathlib.Core.Bool.{Bool, true, false, cond}
use mathlib.Core.Logic.{inl, inr, ⊎_elim}
use mathlib.Core.Path.{◌≡◌, refl, sym, ◌∙◌, ap}
use native.Mathlib.Decide.{dec_lt}
use native.Mathlib.Nat.{le_of_mul-le-mul_right, le_trans, mul-le-mul_right}
use native.Mathlib.Omega.{arith}
use Rattle.booking.proofs.ShareLaws.{Sound, sound_exact}
use Rattle.clock.specs.Clock.{ticks, until}
use Rattle.clock.specs.declared.Length.{Length}
use Rattle.clock.specs.declared.Moment.{Moment}
use Rattle.server.specs.declared.Server.{Server}
use Rattle.server.proofs.MoveLaws.{booking_of, keeps_ahead, renews_is}
use Rattle.server.specs.Moves.{renews, renewed, with_work, arrived, one_tick_less, postponed, spent, served}
use Rattle.server.proofs.Potential.{Rests, HasBudgetOrRests, own_share, owed, potential}
use Rattle.server.specs.Ranges.{Ranged}
use Rattle.server.specs.Server.{idle}

-- A server that renews has c × T of at least (d − t) × Q; one that keeps has less.
module _ (s : Server) (t : Moment) where
  renews_full : renews s t ≡ true → (until t s.deadline).ticks * s.budget.ticks ≤ s.remaining.ticks * s.period.ticks
  renews_full e = leb-true _ _ (sym (renews_is s t) ∙ e)

  full_renews : (until t s.deadline).ticks * s.budget.ticks ≤ s.remaining.ticks * s.period.ticks → renews s t ≡ true
  full_renews h = renews_is s t ∙ le-leb _ _ h

  pub keeps_less : renews s t ≡ false → s.remaining.ticks * s.period.ticks < (until t s.deadline).ticks * s.budget.ticks
  keeps_less e = leb-false _ _ (sym (renews_is s t) ∙ e)

-- a server that would be renewed at one moment would be at every later one
renews_later : (s : Server) (t u : Moment) → t.tick ≤ u.tick → renews s t ≡ true → renews s u ≡ true
renews_later s t u h e =
    let nearer : s.deadline.tick - u.tick ≤ s.deadline.tick - t.tick = omega arith in
    full_renews s u (le_trans (mul-le-mul_right s.budget.ticks nearer) (renews_full s t e))

-- within the ranges a server without budget is idle, so that none is held back
pub ranged_rests : {t : Moment} {s : Server} → Ranged t s → HasBudgetOrRests t s
ranged_rests r = ⊎_elim inl (λ none. inr (inl (eq-eqb _ _ none.2))) r.charged

module _ (H : Length) where
  pub owed_reached : (b : Moment) (s : Server) → s.deadline.tick ≤ b.tick
      → owed H b s ≡ H.ticks * s.remaining.ticks + (until s.deadline b).ticks * own_share H s
  unfolding owed
  owed_reached b s h = rw (le-leb _ _ h)

  pub owed_beyond : (b : Moment) (s : Server) → b.tick < s.deadline.tick → owed H b s ≡ 0
  unfolding owed
  owed_beyond b s h = rw (lt-leb _ _ h)

  -- a sound booking, and c at most Q: no move takes that from a server
  pub record Booked (s : Server) : Type 0 where
    pub sound : Sound H (booking_of s)
    pub small : s.remaining.ticks ≤ s.budget.ticks

  module _ {s : Server} (ok : Booked s) where
    arrived_booked : (t : Moment) (cost : Length) → Booked (arrived s t cost)
    unfolding arrived
    arrived_booked t cost = go (idle s) (renews s t)
      where
        go : (i k : Bool) → Booked (with_work (cond i (cond k (renewed s t) s) s) cost)
        go true true = record { sound = ok.sound; small = omega arith }
        go true false = record { sound = ok.sound; small = ok.small }
        go false k = record { sound = ok.sound; small = ok.small }

    served_booked : Booked (served s)
    unfolding served
    served_booked = go (spent (one_tick_less s))
      where
        go : (b : Bool) → Booked (cond b (postponed (one_tick_less s)) (one_tick_less s))
        go true = record { sound = ok.sound; small = omega arith }
        go false = record { sound = ok.sound; small = omega (arith, ok.small) }

  module _ {s : Server} (ok : Booked s) where
    exact : own_share H s * s.period.ticks ≡ s.budget.ticks * H.ticks
    exact = sound_exact H (booking_of s) ok.sound

    some : 1 ≤ s.period.ticks
    some = le_trans ok.sound.budget ok.sound.fits

    -- c × T against (d − t) × Q is c × H against (d − t) × share
    full_share : (ahead : ℕ) → ahead * s.budget.ticks ≤ s.remaining.ticks * s.period.ticks
        → ahead * own_share H s ≤ H.ticks * s.remaining.ticks
    full_share ahead h =
        le_of_mul-le-mul_right {k = s.period.ticks}
        (omega (arith, ap (λ (x : ℕ). ahead * x) exact, mul-le-mul_right H.ticks h))
        some

    less_share : (ahead : ℕ) → s.remaining.ticks * s.period.ticks ≤ ahead * s.budget.ticks
        → H.ticks * s.remaining.ticks ≤ ahead * own_share H s
    less_share ahead h =
        le_of_mul-le-mul_right {k = s.period.ticks}
        (omega (arith, ap (λ (x : ℕ). ahead * x) exact, mul-le-mul_right H.ticks h))
        some

    module _ (t b : Moment) where
      -- a server that is renewed at t is owed its share from t on, or nothing
      renewed_owed : owed H b (renewed s t) ≤ (until t b).ticks * own_share H s
      renewed_owed = go (dec_lt b.tick (t.tick + s.period.ticks))
        where
          go : Dec (b.tick < t.tick + s.period.ticks) → owed H b (renewed s t) ≤ (until t b).ticks * own_share H s
          go (yes h) = rw (owed_beyond b (renewed s t) h) (omega arith)
          go (no h) =
              let parts : b.tick - t.tick ≡ s.period.ticks + (b.tick - (t.tick + s.period.ticks)) = omega arith in
              rw (owed_reached b (renewed s t) (omega arith))
              (omega (arith, exact, ap (λ (x : ℕ). x * own_share H s) parts))

      -- a server is renewed no sooner than T before its deadline
      renews_near : renews s t ≡ true → s.deadline.tick ≤ t.tick + s.period.ticks
      renews_near e =
          let close : s.deadline.tick - t.tick ≤ s.period.ticks
          = le_of_mul-le-mul_right {k = s.budget.ticks}
          (le_trans (renews_full s t e) (omega (arith, mul-le-mul_right s.period.ticks ok.small)))
          ok.sound.budget in
          omega arith

      -- to be renewed does not raise what is owed
      renewed_no_more : renews s t ≡ true → owed H b (renewed s t) ≤ owed H b s
      renewed_no_more e = go (dec_lt b.tick (t.tick + s.period.ticks))
        where
          go : Dec (b.tick < t.tick + s.period.ticks) → owed H b (renewed s t) ≤ owed H b s
          go (yes h) = rw (owed_beyond b (renewed s t) h) (omega arith)
          go (no h) =
              let split : b.tick - t.tick ≤ (b.tick - s.deadline.tick) + (s.deadline.tick - t.tick) = omega arith in
              rw (owed_reached b s (omega (arith, renews_near e)))
              (omega (
                arith,
                renewed_owed,
                mul-le-mul_right (own_share H s) split,
                full_share (until t s.deadline).ticks (renews_full s t e),
              ))

      -- Work that arrives does not raise what is owed, whether the server wakes, renewed or with what it has kept, or is busy.
      pub arrived_no_more : (cost : Length) → owed H b (arrived s t cost) ≤ owed H b s
      unfolding arrived owed
      arrived_no_more cost = go (idle s) (renews s t) refl
        where
          go : (i k : Bool) → renews s t ≡ k → owed H b (with_work (cond i (cond k (renewed s t) s) s) cost) ≤ owed H b s
          go true true e = renewed_no_more e
          go true false e = omega arith
          go false k e = omega arith

  -- What a server can still get, case by case.
  module _ (s : Server) (t b : Moment) where
    -- a busy one what is owed to it
    pub potential_busy : idle s ≡ false → potential H t b s ≡ owed H b s
    unfolding potential owed arrived
    potential_busy e = rw e

    -- an idle one the same, if it would keep its deadline
    potential_kept : idle s ≡ true → renews s t ≡ false → potential H t b s ≡ owed H b s
    unfolding potential owed arrived
    potential_kept e q = rw (e, q)

    potential_renewed : idle s ≡ true → renews s t ≡ true → potential H t b s ≡ owed H b (renewed s t)
    unfolding potential owed arrived
    potential_renewed e q = rw (e, q)

    -- what is owed once work has arrived, however much
    potential_arrived : (cost : Length) → potential H t b s ≡ owed H b (arrived s t cost)
    unfolding potential owed arrived
    potential_arrived cost = refl

  -- it is never more than what is owed
  potential_owed : {s : Server} → Booked s → (t b : Moment) → potential H t b s ≤ owed H b s
  unfolding potential
  potential_owed ok t b = arrived_no_more ok t b (ticks 0)

  -- Work that arrives does not raise it.
  pub arrived_potential : {s : Server} → Booked s → (t b : Moment) (cost : Length) → potential H t b (arrived s t cost) ≤ potential H t b s
  arrived_potential {s} ok t b cost =
      omega (arith, potential_owed (arrived_booked ok t cost) t b, potential_arrived s t b cost)

  -- Nor does time that passes.
  renewed_later : (s : Server) (t u b : Moment) → t.tick ≤ u.tick → owed H b (renewed s u) ≤ owed H b (renewed s t)
  renewed_later s t u b h = go (dec_lt b.tick (u.tick + s.period.ticks))
    where
      go : Dec (b.tick < u.tick + s.period.ticks) → owed H b (renewed s u) ≤ owed H b (renewed s t)
      go (yes q) = rw (owed_beyond b (renewed s u) q) (omega arith)
      go (no q) =
          let nearer : b.tick - (u.tick + s.period.ticks) ≤ b.tick - (t.tick + s.period.ticks) = omega arith in
          rw (owed_reached b (renewed s u) (omega arith), owed_reached b (renewed s t) (omega arith))
          (omega (arith, mul-le-mul_right (own_share H s) nearer))

  pub later_potential : {s : Server} → Booked s → (t u b : Moment) → t.tick ≤ u.tick → potential H u b s ≤ potential H t b s
  later_potential {s} ok t u b h = go (idle s) refl (renews s t) refl
    where
      go : (i : Bool) → idle s ≡ i → (k : Bool) → renews s t ≡ k → potential H u b s ≤ potential H t b s
      go true i true k =
          rw (potential_renewed s t b i k, potential_renewed s u b i (renews_later s t u h k)) (renewed_later s t u b h)
      go true i false k = rw (potential_kept s t b i k) (potential_owed ok u b)
      go false i k e = rw (potential_busy s t b i, potential_busy s u b i) (omega arith)

  -- A tick that a server gets.
  module _ {s : Server} (ok : Booked s) (b : Moment) where
    -- under a deadline no later than b it lowers what is owed by the frame
    served_owed : 1 ≤ s.remaining.ticks → s.deadline.tick ≤ b.tick → owed H b (served s) + H.ticks ≤ owed H b s
    unfolding served
    served_owed left h = go (spent (one_tick_less s)) refl
      where
        last : s.remaining.ticks ≡ 1 → Dec (b.tick < s.deadline.tick + s.period.ticks)
            → owed H b (postponed (one_tick_less s)) + H.ticks ≤ owed H b s
        last one (yes q) =
            rw (owed_beyond b (postponed (one_tick_less s)) q, owed_reached b s h, one) (omega arith)
        last one (no q) =
            let parts : b.tick - s.deadline.tick ≡ s.period.ticks + (b.tick - (s.deadline.tick + s.period.ticks)) = omega arith in
            rw (owed_reached b (postponed (one_tick_less s)) (omega arith), owed_reached b s h, one)
            (omega (arith, exact ok, ap (λ (x : ℕ). x * own_share H s) parts))

        go : (e : Bool) → spent (one_tick_less s) ≡ e
            → owed H b (cond e (postponed (one_tick_less s)) (one_tick_less s)) + H.ticks ≤ owed H b s
        go true e = last (omega (arith, eqb-true (s.remaining.ticks - 1) 0 e)) (dec_lt b.tick (s.deadline.tick + s.period.ticks))
        go false e =
            let one : s.remaining.ticks ≡ 1 + (s.remaining.ticks - 1) = omega arith in
            rw (owed_reached b (one_tick_less s) h, owed_reached b s h) (omega (arith, ap (λ (x : ℕ). H.ticks * x) one))

    -- and so the potential, whatever time has passed
    pub served_potential : (t u : Moment) → idle s ≡ false → 1 ≤ s.remaining.ticks → s.deadline.tick ≤ b.tick
        → potential H u b (served s) + H.ticks ≤ potential H t b s
    served_potential t u busy left h =
        rw (potential_busy s t b busy) (omega (arith, potential_owed (served_booked ok) u b, served_owed left h))

    served_deadline : s.deadline.tick ≤ (served s).deadline.tick
    unfolding served
    served_deadline = go (spent (one_tick_less s))
      where
        go : (e : Bool) → s.deadline.tick ≤ (cond e (postponed (one_tick_less s)) (one_tick_less s)).deadline.tick
        go true = omega arith
        go false = omega arith

    -- under a later deadline it leaves nothing to get up to b
    pub served_beyond : (u : Moment) → b.tick < s.deadline.tick → potential H u b (served s) ≡ 0
    served_beyond u h =
        omega (arith, potential_owed (served_booked ok) u b, owed_beyond b (served s) (omega (arith, served_deadline)))

  -- A server that rests can get no more than its share from t on.
  module _ {s : Server} (ok : Booked s) (t b : Moment) where
    owed_ahead : H.ticks * s.remaining.ticks ≤ (until t s.deadline).ticks * own_share H s → t.tick < s.deadline.tick
        → owed H b s ≤ (until t b).ticks * own_share H s
    owed_ahead less ahead = go (dec_lt b.tick s.deadline.tick)
      where
        go : Dec (b.tick < s.deadline.tick) → owed H b s ≤ (until t b).ticks * own_share H s
        go (yes q) = rw (owed_beyond b s q) (omega arith)
        go (no q) =
            let split : b.tick - t.tick ≡ (b.tick - s.deadline.tick) + (s.deadline.tick - t.tick) = omega arith in
            rw (owed_reached b s (omega arith)) (omega (arith, less, ap (λ (x : ℕ). x * own_share H s) split))

    pub rests_potential : Rests t s → potential H t b s ≤ (until t b).ticks * own_share H s
    rests_potential (inr held) =
        le_trans (potential_owed ok t b) (owed_ahead (rw held.0 (omega arith)) held.1)
    rests_potential (inl i) = go (renews s t) refl
      where
        go : (k : Bool) → renews s t ≡ k → potential H t b s ≤ (until t b).ticks * own_share H s
        go true k = rw (potential_renewed s t b i k) (renewed_owed ok t b)
        go false k =
            rw (potential_kept s t b i k)
            (owed_ahead (less_share ok (until t s.deadline).ticks (omega (arith, keeps_less s t k))) (keeps_ahead s t k))
