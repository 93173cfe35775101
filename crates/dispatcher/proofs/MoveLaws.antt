-- The moves case by case, and that every move keeps the dispatcher within its ranges.
use Prim.Native.Nat.{ℕ, ◌+◌, ◌≤◌, ◌<◌}
use borrow.Author.Tests.{eqb-false, ltb-true, ltb-false, eq-eqb, ne_eqb, lt-ltb, le-ltb}
use lib.Dec.{eqb, ltb}
use lib.ListN.{length, length-set, get_or, set}
use lib.Seq.{get_or-set_same, get_or-set_other}
use mathlib.Core.Bool.{Bool, true, false}
use mathlib.Core.Path.{◌≡◌, refl, ◌∙◌, subst⁻¹}
use native.Mathlib.Decide.{ℕ_discrete}
use native.Mathlib.Omega.{arith}
use Rattle.arrival.proofs.ArrivalLaws.{sound}
use Rattle.arrival.specs.Arrival.{faulty_arrival}
use Rattle.clock.specs.Clock.{later, ticks}
use Rattle.clock.specs.declared.Length.{Length}
use Rattle.refusal.specs.Refusals.{gave, accepted}
use Rattle.server.proofs.RangeLaws.{ranged_later, arrived_ranged, served_ranged}
use Rattle.server.specs.Moves.{arrived, spends_last, served}
use Rattle.server.specs.Ranges.{Ranged}
use Rattle.server.specs.Server.{vacant}
use Rattle.server.specs.declared.Server.{Server}
use Rattle.sizes.specs.Sizes.{clock_end, most_waiting}
use Rattle.dispatcher.specs.declared.Dispatcher.{Dispatcher}
use Rattle.dispatcher.specs.Moves.{Answered, leaving, standing, with_server, refusing, too_much_work, arrival, one_later, ran, tick}
use Rattle.dispatcher.specs.declared.Turn.TheVariants.{Idle, Ran}
use Rattle.dispatcher.specs.Pick.{server_at, picked, Earliest}
use Rattle.dispatcher.proofs.PickLaws.{earliest_busy, picked_earliest}
use Rattle.dispatcher.specs.Within.{Within}

-- An arrival and a tick case by case.
module _ (d : Dispatcher) where
  pub arrival_faulty : (i : ℕ) (cost : Length) → faulty_arrival d.count i cost ≡ true → arrival d i cost ≡ refusing d 6
  unfolding arrival
  arrival_faulty i cost f = rw f

  pub arrival_too_much : (i : ℕ) (cost : Length) → faulty_arrival d.count i cost ≡ false
      → most_waiting < (server_at d i).waiting.ticks + cost.ticks → arrival d i cost ≡ refusing d 11
  unfolding arrival
  arrival_too_much i cost f h = rw (f, lt-ltb _ _ h)

  pub arrival_whole : (i : ℕ) (cost : Length) → faulty_arrival d.count i cost ≡ false
      → (server_at d i).waiting.ticks + cost.ticks ≤ most_waiting
      → arrival d i cost
      ≡ leaving accepted (with_server d i (arrived (server_at d i) d.clock cost))
  unfolding arrival
  arrival_whole i cost f h = rw (f, le-ltb _ _ h)

  pub tick_ended : d.clock.tick ≡ clock_end → tick d ≡ refusing d 10
  unfolding tick
  tick_ended h = rw (eq-eqb _ _ h)

  pub tick_ran : (d.clock.tick ≡ clock_end → ⊥) → picked d < d.count → tick d ≡ ran d (picked d)
  unfolding tick
  tick_ran h p = rw (ne_eqb _ _ h, lt-ltb _ _ p)

  pub tick_idle : (d.clock.tick ≡ clock_end → ⊥) → d.count ≤ picked d
      → tick d ≡ leaving (gave Idle) (one_later d)
  unfolding tick
  tick_idle h p = rw (ne_eqb _ _ h, le-ltb _ _ p)

-- What each alters: a step at server i its place, step 4 the clock, and a tick that is given to server i those two.
module _ (d : Dispatcher) where
  pub with_server_is : (i : ℕ) (s : Server) → with_server d i s ≡ standing d d.clock (set d.servers i s)
  with_server_is i s = refl

  pub one_later_is : one_later d ≡ standing d (later d.clock (ticks 1)) d.servers
  one_later_is = refl

  pub ran_is : (i : ℕ)
      → ran d i
      ≡ leaving (gave (Ran i (server_at d i).deadline (spends_last (server_at d i))))
      (standing d (later d.clock (ticks 1)) (set d.servers i (served (server_at d i))))
  unfolding ran
  ran_is i = refl

-- Every move keeps the ranges.

-- with another server at a place that holds one
pub server_within : {d : Dispatcher} → Within d → (i : ℕ) → i < d.count → (s : Server) → Ranged d.clock s
    → Within (with_server d i s)
server_within {d} ok i h s r =
    record {
      frame_from = ok.frame_from;
      frame_to = ok.frame_to;
      clock = ok.clock;
      count = ok.count;
      places = simp length-set ok.places;
      servers = λ j b. at j b (ℕ_discrete j i);
      behind = λ j b. get_or-set_other d.servers i j s vacant (omega arith) ∙ ok.behind j b;
    }
  where
    here : i < length d.servers
    here = omega (arith, ok.places, ok.count)

    at : (j : ℕ) → j < d.count → Dec (j ≡ i) → Ranged d.clock (get_or (with_server d i s).servers j vacant)
    at j b (yes q) = subst⁻¹ (λ (k : ℕ). Ranged d.clock (get_or (with_server d i s).servers k vacant)) q
        (subst⁻¹ (Ranged d.clock) (get_or-set_same d.servers i s vacant here) r)
    at j b (no q) = subst⁻¹ (Ranged d.clock) (get_or-set_other d.servers i j s vacant q) (ok.servers j b)

-- one tick later, before the clock's end
pub later_within : {d : Dispatcher} → Within d → d.clock.tick < clock_end → Within (one_later d)
later_within {d} ok h =
    record {
      frame_from = ok.frame_from;
      frame_to = ok.frame_to;
      clock = omega arith;
      count = ok.count;
      places = ok.places;
      servers = λ i b. ranged_later (omega arith) (ok.servers i b);
      behind = ok.behind;
    }

-- an arrival
pub arrival_within : {d : Dispatcher} → Within d → (i : ℕ) (cost : Length) → Within (arrival d i cost).dispatcher
unfolding arrival
arrival_within {d} ok i cost = go (faulty_arrival d.count i cost) refl (too_much_work d i cost) refl
  where
    known : faulty_arrival d.count i cost ≡ false → i < d.count
    known f = (sound d.count i cost f).known

    go : (f : Bool) → faulty_arrival d.count i cost ≡ f → (o : Bool) → too_much_work d i cost ≡ o → Within (arrival d i cost).dispatcher
    go true f o e = rw f ok
    go false f true e = rw (f, e) ok
    go false f false e =
        rw (f, e)
        (server_within ok i (known f) (arrived (server_at d i) d.clock cost)
        (arrived_ranged (server_at d i) d.clock cost (ok.servers i (known f)) (ltb-false _ _ e)))

-- a tick that is given to the server with the earliest deadline
pub ran_within : {d : Dispatcher} → Within d → d.clock.tick < clock_end → (i : ℕ) → Earliest d d.count i
    → Within (ran d i).dispatcher
unfolding ran
ran_within {d} ok h i e =
    server_within (later_within ok h) i e.among (served (server_at d i))
    (served_ranged (server_at d i) d.clock (ok.servers i e.among) (eqb-false _ _ (earliest_busy e)))

-- a clock within its range that does not stand at its end has a tick left
pub before_end : {d : Dispatcher} → Within d → (d.clock.tick ≡ clock_end → ⊥) → d.clock.tick < clock_end
before_end ok h = omega (arith, ok.clock)

-- a tick
pub tick_within : {d : Dispatcher} → Within d → Within (tick d).dispatcher
unfolding tick
tick_within {d} ok = go (eqb d.clock.tick clock_end) refl (ltb (picked d) d.count) refl
  where
    go : (e : Bool) → eqb d.clock.tick clock_end ≡ e → (p : Bool) → ltb (picked d) d.count ≡ p → Within (tick d).dispatcher
    go true e p q = rw e ok
    go false e true q =
        rw (e, q)
        (ran_within ok (before_end ok (eqb-false _ _ e)) (picked d) (picked_earliest d (ltb-true _ _ q)))
    go false e false q = rw (e, q) (later_within ok (before_end ok (eqb-false _ _ e)))

-- what a move hands back, being what its definition gives, is within them
pub and_within : {A : Type 0} {m n : Answered A} → Within n.dispatcher → m ≡ n → (m ≡ n) × Within m.dispatcher
and_within ok e = (e, subst⁻¹ (λ (m : Answered _). Within m.dispatcher) e ok)
