-- What a move does to the dispatcher and to each server.
use Prim.Native.Nat.{ℕ, ◌≤◌, ◌<◌}
use borrow.Author.Tests.{eqb-true, eqb-false, ltb-true, ltb-false}
use lib.Dec.{eqb, ltb}
use lib.ListN.{length}
use lib.Seq.{get_or-set_same, get_or-set_other}
use mathlib.Core.Bool.{Bool, true, false}
use mathlib.Core.Path.{◌≡◌, refl, ◌∙◌, ap, subst⁻¹}
use native.Mathlib.Decide.{ℕ_discrete}
use native.Mathlib.Omega.{arith}
use Rattle.arrival.proofs.ArrivalLaws.{sound}
use Rattle.arrival.specs.Arrival.{faulty_arrival}
use Rattle.clock.specs.Clock.{later, ticks}
use Rattle.clock.specs.declared.Length.{Length}
use Rattle.dispatcher.proofs.MoveLaws.{tick_ended, tick_idle, tick_ran}
use Rattle.dispatcher.proofs.PickLaws.{picked_earliest, picked_none}
use Rattle.dispatcher.specs.Moves.{Answered, leaving, refusing, too_much_work, arrival, one_later, ran, tick}
use Rattle.dispatcher.specs.declared.Turn.{Turn}
use Rattle.dispatcher.specs.declared.Turn.TheVariants.{Idle}
use Rattle.dispatcher.specs.Pick.{server_at, picked, Earliest, NoneWorks}
use Rattle.dispatcher.specs.Within.{Within}
use Rattle.dispatcher.specs.declared.Dispatcher.{Dispatcher}
use Rattle.history.proofs.ChoiceLaws.{for_nobody, for_other}
use Rattle.history.specs.Choice.{nobody, given, is_for}
use Rattle.moments.specs.Moments.{choice_of}
use Rattle.refusal.specs.Refusals.{gave}
use Rattle.server.proofs.MoveLaws.{arrived_waiting}
use Rattle.server.specs.Moves.{arrived, served}
use Rattle.server.specs.Server.{vacant}
use Rattle.sizes.specs.Sizes.{clock_end}

-- What an arrival for server j does to server i: it passes it by, or it brings it work.
pub data ArrivalServer (d : Dispatcher) (j : ℕ) (cost : Length) (i : ℕ) : Type 0 where
  passes : server_at (arrival d j cost).dispatcher i ≡ server_at d i → ArrivalServer d j cost i
  brings : server_at (arrival d j cost).dispatcher i ≡ arrived (server_at d i) d.clock cost → ArrivalServer d j cost i

-- What a tick does: it is refused; or idle, where no server works; or given to the server with the earliest deadline.
pub data TickCase (d : Dispatcher) : Type 0 where
  refused_tick : (tick d).dispatcher ≡ d → choice_of (tick d).answer ≡ nobody → TickCase d
  idle_tick : NoneWorks d d.count → (tick d).dispatcher.clock ≡ later d.clock (ticks 1) → choice_of (tick d).answer ≡ nobody
      → TickCase d
  given_tick : (p : ℕ) → Earliest d d.count p → (tick d).dispatcher.clock ≡ later d.clock (ticks 1)
      → choice_of (tick d).answer ≡ given p (server_at d p).deadline → TickCase d

-- What it does to server i: it leaves it as it is, or it serves it.
pub data TickServer (d : Dispatcher) (i : ℕ) : Type 0 where
  leaves : server_at (tick d).dispatcher i ≡ server_at d i → is_for i (choice_of (tick d).answer) ≡ false → TickServer d i
  serves : Earliest d d.count i → server_at (tick d).dispatcher i ≡ served (server_at d i)
      → choice_of (tick d).answer ≡ given i (server_at d i).deadline → TickServer d i

module _ {d : Dispatcher} (ok : Within d) where
  here : (i : ℕ) → i < d.count → i < length d.servers
  here i b = omega (arith, ok.places, ok.count)

  pub arrival_server : (j : ℕ) (cost : Length) (i : ℕ) → ArrivalServer d j cost i
  unfolding arrival
  arrival_server j cost i = go (faulty_arrival d.count j cost) refl (too_much_work d j cost) refl (ℕ_discrete i j)
    where
      go : (f : Bool) → faulty_arrival d.count j cost ≡ f → (o : Bool) → too_much_work d j cost ≡ o → Dec (i ≡ j) → ArrivalServer d j cost i
      go true f o e q = passes (rw f)
      go false f true e q = passes (rw (f, e))
      go false f false e (yes q) =
          brings
          (rw (f, e, q)
          (get_or-set_same d.servers j (arrived (server_at d j) d.clock cost) vacant (here j (sound d.count j cost f).known)))
      go false f false e (no q) =
          passes (rw (f, e) (get_or-set_other d.servers j i (arrived (server_at d j) d.clock cost) vacant q))

  -- it takes no work away
  pub arrival_waiting : (j : ℕ) (cost : Length) (i : ℕ) → (server_at d i).waiting.ticks ≤ (server_at (arrival d j cost).dispatcher i).waiting.ticks
  arrival_waiting j cost i = go (arrival_server j cost i)
    where
      go : ArrivalServer d j cost i → (server_at d i).waiting.ticks ≤ (server_at (arrival d j cost).dispatcher i).waiting.ticks
      go (passes e) = rw e (omega arith)
      go (brings e) = rw e (omega (arith, arrived_waiting (server_at d i) d.clock cost))

  -- A tick by its definition.
  data Way : Type 0 where
    by_refusal : tick d ≡ refusing d 10 → Way
    by_nobody : NoneWorks d d.count → tick d ≡ leaving (gave Idle) (one_later d) → Way
    by_server : (p : ℕ) → Earliest d d.count p → tick d ≡ ran d p → Way

  way : Way
  way = go (eqb d.clock.tick clock_end) refl (ltb (picked d) d.count) refl
    where
      go : (e : Bool) → eqb d.clock.tick clock_end ≡ e → (p : Bool) → ltb (picked d) d.count ≡ p → Way
      go true e p q = by_refusal (tick_ended d (eqb-true _ _ e))
      go false e true q = by_server (picked d) (picked_earliest d (ltb-true _ _ q)) (tick_ran d (eqb-false _ _ e) (ltb-true _ _ q))
      go false e false q = by_nobody (picked_none d (ltb-false _ _ q)) (tick_idle d (eqb-false _ _ e) (ltb-false _ _ q))

  clock_by : {m : Answered Turn} → tick d ≡ m → (tick d).dispatcher.clock ≡ m.dispatcher.clock
  clock_by e = ap (λ (m : Answered Turn). m.dispatcher.clock) e

  choice_by : {m : Answered Turn} → tick d ≡ m → choice_of (tick d).answer ≡ choice_of m.answer
  choice_by e = ap (λ (m : Answered Turn). choice_of m.answer) e

  server_by : {m : Answered Turn} → tick d ≡ m → (i : ℕ) → server_at (tick d).dispatcher i ≡ server_at m.dispatcher i
  server_by e i = ap (λ (m : Answered Turn). server_at m.dispatcher i) e

  pub tick_cases : TickCase d
  unfolding ran
  tick_cases = go way
    where
      go : Way → TickCase d
      go (by_refusal e) = refused_tick (ap (λ (m : Answered Turn). m.dispatcher) e) (choice_by e)
      go (by_nobody idle e) = idle_tick idle (clock_by e) (choice_by e)
      go (by_server p first e) = given_tick p first (clock_by e) (choice_by e)

  pub tick_server : (i : ℕ) → TickServer d i
  unfolding ran
  tick_server i = go way
    where
      at : (p : ℕ) → Earliest d d.count p → tick d ≡ ran d p → Dec (i ≡ p) → TickServer d i
      at p first e (no q) =
          leaves (server_by e i ∙ get_or-set_other d.servers p i (served (server_at d p)) vacant q)
          (ap (is_for i) (choice_by e) ∙ for_other i p (server_at d p).deadline q)
      at p first e (yes q) =
          subst⁻¹ (TickServer d) q
          (serves first (server_by e p ∙ get_or-set_same d.servers p (served (server_at d p)) vacant (here p first.among)) (choice_by e))

      go : Way → TickServer d i
      go (by_refusal e) = leaves (server_by e i) (ap (is_for i) (choice_by e) ∙ for_nobody i)
      go (by_nobody idle e) = leaves (server_by e i) (ap (is_for i) (choice_by e) ∙ for_nobody i)
      go (by_server p first e) = at p first e (ℕ_discrete i p)

  -- it leaves the count of servers, and turns no clock back
  pub tick_count : (tick d).dispatcher.count ≡ d.count
  unfolding ran
  tick_count = go way
    where
      go : Way → (tick d).dispatcher.count ≡ d.count
      go (by_refusal e) = ap (λ (m : Answered Turn). m.dispatcher.count) e
      go (by_nobody idle e) = ap (λ (m : Answered Turn). m.dispatcher.count) e
      go (by_server p first e) = ap (λ (m : Answered Turn). m.dispatcher.count) e

  pub tick_clock : d.clock.tick ≤ (tick d).dispatcher.clock.tick
  tick_clock = go tick_cases
    where
      go : TickCase d → d.clock.tick ≤ (tick d).dispatcher.clock.tick
      go (refused_tick e c) = rw e (omega arith)
      go (idle_tick none e c) = rw e (omega arith)
      go (given_tick p first e c) = rw e (omega arith)
