-- The dispatcher of a run that stands at moment t with the first j arrivals taken.
use Prim.Native.Nat.{ℕ, suc, ◌+◌, ◌*◌, ◌≤◌, ◌<◌}
use lib.Dec.{eqb, ltb}
use lib.ListN.{get_or-eq_default}
use lib.Seq.{get_or-set_same, get_or-set_other}
use mathlib.Core.Bool.{Bool, true, false, cond}
use mathlib.Core.Path.{◌≡◌, refl, sym, ◌∙◌, ap, subst⁻¹}
use native.Mathlib.Decide.{dec_lt, ℕ_discrete}
use native.Mathlib.Nat.{mul-le-mul_right, not-suc-le-zero}
use native.Mathlib.Omega.{arith}
use Rattle.arrival.proofs.ArrivalLaws.{not_faulty}
use Rattle.arrival.specs.Arrival.{faulty_arrival}
use Rattle.clock.specs.Clock.{moment}
use Rattle.clock.specs.declared.Moment.{Moment}
use Rattle.counting.proofs.BelowLaws.{below_suc}
use Rattle.counting.proofs.PlacesLaws.{get_d_places, length_places}
use Rattle.counting.proofs.SumLaws.{sum_le}
use Rattle.counting.specs.Places.{places}
use Rattle.dispatcher.proofs.MoveLaws.{arrival_whole}
use Rattle.dispatcher.specs.Moves.{Answered, leaving, with_server, arrival}
use Rattle.dispatcher.specs.Pick.{server_at}
use Rattle.dispatcher.specs.Start.{start_at, at_start}
use Rattle.dispatcher.specs.Within.{Within}
use Rattle.dispatcher.specs.declared.Dispatcher.{Dispatcher}
use Rattle.finish.specs.Finish.{cost_for, work_of}
use Rattle.history.proofs.ChoiceLaws.{served_start}
use Rattle.history.specs.Choice.{ticks_served}
use Rattle.judgement.proofs.FitLaws.{Fit}
use Rattle.moments.proofs.MomentLaws.{taken_more, taken_rest, at_keeps, at_within, taken_within, taken_keeps}
use Rattle.moments.specs.Moments.{taken, at_moment, ready, history}
use Rattle.refusal.specs.Refusals.{accepted}
use Rattle.server.proofs.MoveLaws.{arrived_waiting}
use Rattle.server.specs.Moves.{arrived}
use Rattle.server.specs.Server.{vacant, fresh}
use Rattle.server.specs.declared.Server.{Server}
use Rattle.sizes.specs.Sizes.{clock_end, most_cost, most_servers, most_waiting}
use Rattle.workfile.specs.Work.{Work}
use Rattle.books.proofs.Jobs.Jobs.{work_none, work_own, work_other}

-- none of the arrivals from j on comes before u
abbrev pub NoneBefore : Work → ℕ → ℕ → Type 0
NoneBefore w j u = (a : ℕ) → j ≤ a → a < w.arrivals → u ≤ (w.arrival a).moment.tick

-- all arrivals before j are of t or earlier, all others of t or later; and what was served and what waits is what arrived
pub record Stands (w : Work) (t j : ℕ) (d : Dispatcher) : Type 0 where
  pub taken_is : d ≡ taken w j (at_moment w t)
  pub count : j ≤ w.arrivals
  pub past : (a : ℕ) → a < j → (w.arrival a).moment.tick ≤ t
  pub ahead : NoneBefore w j t
  pub adds : (i : ℕ) → ticks_served (history w) i t + (server_at d i).waiting.ticks ≡ work_of w i j

-- at the start nothing waits
pub start_waits_none : (w : Work) (i : ℕ) → (server_at (at_moment w 0) i).waiting.ticks ≡ 0
unfolding at_moment at_start
start_waits_none w i = go (dec_lt i most_servers)
  where
    go : Dec (i < most_servers) → (server_at (at_moment w 0) i).waiting.ticks ≡ 0
    go (yes l) = ap (λ (s : Server). s.waiting.ticks) (get_d_places most_servers (start_at w.table) i vacant l) ∙ by
        (ltb i w.table.count)
      where
        by : (b : Bool) → (cond b (fresh (w.table.booking i)) vacant).waiting.ticks ≡ 0
        by true = refl
        by false = refl
    go (no l) =
        ap (λ (s : Server). s.waiting.ticks)
        (get_or-eq_default (places most_servers (start_at w.table)) vacant
        (omega (arith, length_places most_servers (start_at w.table))))

pub stands_start : (w : Work) → Stands w 0 0 (at_moment w 0)
unfolding taken
stands_start w =
    record {
      taken_is = refl;
      count = omega arith;
      past = λ a b. absurd (not-suc-le-zero b);
      ahead = λ a l b. omega arith;
      adds = λ i. omega (arith, served_start (history w) i, start_waits_none w i, work_none w i);
    }

module _ {w : Work} {places : ℕ} (fit : Fit w places) where
  -- an accepted file brings no server more work than may wait
  work_le : (i k : ℕ) → k ≤ w.arrivals → work_of w i k ≤ k * most_cost
  unfolding work_of
  work_le i k le = sum_le k most_cost (cost_for w i) (λ a b. go a (fit.sound a (omega arith)).to (eqb (w.arrival a).server i))
    where
      go : (a : ℕ) → (w.arrival a).cost.ticks ≤ most_cost → (x : Bool) → cond x (w.arrival a).cost.ticks 0 ≤ most_cost
      go a c true = c
      go a c false = omega arith

  module _ {t j : ℕ} {d : Dispatcher} (s : Stands w t j d) (end : t ≤ clock_end) where
    pub stands_within : Within d
    stands_within = subst⁻¹ Within s.taken_is (taken_within w j (at_within w fit t))

    pub stands_clock : d.clock ≡ moment t
    stands_clock = ap (λ (x : Dispatcher). x.clock) s.taken_is ∙ (taken_keeps w j (at_moment w t)).0 ∙ (at_keeps w t end).0

    pub stands_count : d.count ≡ w.table.count
    stands_count = ap (λ (x : Dispatcher). x.count) s.taken_is ∙ (taken_keeps w j (at_moment w t)).1 ∙ (at_keeps w t end).1

    -- the next arrival is of this moment
    module _ (more : j < w.arrivals) (now : (w.arrival j).moment.tick ≡ t) where
      pub room : (server_at d (w.arrival j).server).waiting.ticks + (w.arrival j).cost.ticks ≤ most_waiting
      room =
          omega (
            arith,
            s.adds (w.arrival j).server,
            work_own w (w.arrival j).server j refl,
            work_le (w.arrival j).server (suc j) more,
            mul-le-mul_right most_cost more,
            fit.arrivals,
            mul-le-mul_right most_cost fit.arrivals,
          )

      pub accepted_whole : arrival d (w.arrival j).server (w.arrival j).cost
          ≡ leaving accepted
          (with_server d (w.arrival j).server (arrived (server_at d (w.arrival j).server) d.clock (w.arrival j).cost))
      accepted_whole =
          arrival_whole d (w.arrival j).server (w.arrival j).cost
          (subst⁻¹ (λ (n : ℕ). faulty_arrival n (w.arrival j).server (w.arrival j).cost ≡ false) stands_count
          (not_faulty w.table.count (w.arrival j).server (w.arrival j).cost (fit.sound j more)))
          room

      pub accepted_as : (arrival d (w.arrival j).server (w.arrival j).cost).dispatcher
          ≡ with_server d (w.arrival j).server (arrived (server_at d (w.arrival j).server) d.clock (w.arrival j).cost)
      accepted_as = ap (λ (m : Answered (Unit {0})). m.dispatcher) accepted_whole

      arrival_other : (k : ℕ) → (k ≡ (w.arrival j).server → ⊥)
          → server_at (arrival d (w.arrival j).server (w.arrival j).cost).dispatcher k ≡ server_at d k
      arrival_other k n =
          ap (λ (x : Dispatcher). server_at x k) accepted_as
          ∙ get_or-set_other d.servers (w.arrival j).server k _ vacant n

      own_waits : (server_at (arrival d (w.arrival j).server (w.arrival j).cost).dispatcher
          (w.arrival j).server).waiting.ticks
          ≡ (server_at d (w.arrival j).server).waiting.ticks + (w.arrival j).cost.ticks
      own_waits =
          ap (λ (x : Dispatcher). (server_at x (w.arrival j).server).waiting.ticks) accepted_as
          ∙ ap (λ (x : Server). x.waiting.ticks)
          (get_or-set_same d.servers (w.arrival j).server _ vacant
          (omega (arith, stands_within.places, stands_within.count, stands_count, (fit.sound j more).known)))
          ∙ arrived_waiting (server_at d (w.arrival j).server) d.clock (w.arrival j).cost

      pub stands_arrival : Stands w t (suc j) (arrival d (w.arrival j).server (w.arrival j).cost).dispatcher
      stands_arrival =
          record {
            taken_is =
                ap (λ (x : Dispatcher). (arrival x (w.arrival j).server (w.arrival j).cost).dispatcher) s.taken_is
                ∙ sym (taken_more w j (at_moment w t) (now ∙ sym (ap (λ (m : Moment). m.tick) (at_keeps w t end).0)));
            count = more;
            past = below_suc (λ (a : ℕ). (w.arrival a).moment.tick ≤ t) j s.past (omega arith);
            ahead = λ a l b. s.ahead a (omega arith) b;
            adds = λ k. adds k (ℕ_discrete k (w.arrival j).server);
          }
        where
          adds : (k : ℕ) → Dec (k ≡ (w.arrival j).server)
              → ticks_served (history w) k t + (server_at (arrival d (w.arrival j).server (w.arrival j).cost).dispatcher
              k).waiting.ticks
              ≡ work_of w k (suc j)
          adds k (yes q) =
              subst⁻¹ (λ (n : ℕ). ticks_served (history w) n t + (server_at
              (arrival d (w.arrival j).server (w.arrival j).cost).dispatcher n).waiting.ticks ≡ work_of w n (suc j)) q
              (omega (arith, own_waits, s.adds (w.arrival j).server, work_own w (w.arrival j).server j refl))
          adds k (no n) =
              omega (
                arith,
                ap (λ (x : Server). x.waiting.ticks) (arrival_other k n),
                s.adds k,
                work_other w k j (λ e. n (sym e)),
              )

    -- where none is left of this moment
    pub stands_ready : NoneBefore w j (suc t) → d ≡ ready w t
    unfolding ready
    stands_ready later =
        s.taken_is
        ∙ sym
        (taken_rest w j w.arrivals (at_moment w t) s.count
        (λ a l b e. omega (arith, later a l b, ap (λ (m : Moment). m.tick) (at_keeps w t end).0)))
