-- From one event to the next: server i, which the rules pick, for k + 1 ticks, or k + 1 idle ones, while no arrival comes.
use Prim.Native.Nat.{ℕ, suc, ◌+◌, ◌-◌, ◌≤◌, ◌<◌}
use lib.Dec.{eqb}
use lib.Seq.{get_or-set_same, get_or-set_other}
use mathlib.Core.Path.{◌≡◌, sym, ◌∙◌, ap, subst, subst⁻¹}
use native.Mathlib.Decide.{dec_lt, ℕ_discrete}
use native.Mathlib.Omega.{arith}
use Rattle.clock.specs.declared.Moment.{Moment}
use Rattle.dispatcher.specs.declared.Turn.TheVariants.{Idle, Ran}
use Rattle.dispatcher.specs.Pick.{server_at, Earliest, NoneWorks}
use Rattle.dispatcher.specs.Within.{Within}
use Rattle.dispatcher.specs.declared.Dispatcher.{Dispatcher}
use Rattle.finish.specs.Finish.{work_of}
use Rattle.history.proofs.ChoiceLaws.{served_own, served_other, for_nobody, for_other}
use Rattle.history.specs.Choice.{nobody, given, ticks_served}
use Rattle.judgement.proofs.FitLaws.{Fit}
use Rattle.moments.proofs.MomentLaws.{at_keeps}
use Rattle.moments.proofs.OneGo.{later_by, ran_for, served_for}
use Rattle.moments.proofs.OneGoLaws.{Quiet, taken_none, at_ran, turn_ran, at_idle, turn_idle, served_waiting}
use Rattle.moments.proofs.PostponedLaws.{history_ran, history_idle}
use Rattle.moments.specs.Moments.{at_moment, ready, turn, history}
use Rattle.refusal.specs.Refusals.{gave}
use Rattle.server.specs.Server.{vacant}
use Rattle.server.specs.declared.Server.{Server}
use Rattle.sizes.specs.Sizes.{clock_end}
use Rattle.workfile.specs.Work.{Work}
use Rattle.books.proofs.Travel.Stands.{NoneBefore, Stands, stands_within, stands_clock, stands_ready}

module _ {w : Work} {places t j : ℕ} {d : Dispatcher} (fit : Fit w places) (s : Stands w t j d) (k : ℕ) (end : t + suc k ≤ clock_end)
    (later : NoneBefore w j (t + suc k)) where
  is_ready : d ≡ ready w t
  is_ready = stands_ready fit s (omega arith) (λ a l b. omega (arith, later a l b))

  quiet : Quiet w t (suc k)
  quiet a q b from to e = go (dec_lt a j)
    where
      go : Dec (a < j) → ⊥
      go (yes l) = omega (arith, s.past a l)
      go (no l) = omega (arith, later a (omega arith) b)

  clock_is : (ready w t).clock.tick ≡ t
  clock_is = ap (λ (x : Dispatcher). x.clock.tick) (sym is_ready) ∙ ap (λ (m : Moment). m.tick) (stands_clock fit s (omega arith))

  -- where the run stands then
  stands_later : (e : Dispatcher) → e ≡ at_moment w (t + suc k)
      → ((i : ℕ) → ticks_served (history w) i (t + suc k) + (server_at e i).waiting.ticks ≡ work_of w i j) → Stands w (t + suc k) j e
  stands_later e at adds =
      record {
        taken_is =
            at
            ∙ sym
            (taken_none w j (at_moment w (t + suc k))
            (λ a b q. omega (arith, s.past a b, ap (λ (m : Moment). m.tick) (at_keeps w (t + suc k) end).0)));
        count = s.count;
        past = λ a b. omega (arith, s.past a b);
        ahead = later;
        adds = adds;
      }

  -- Server i runs.
  module _ (i : ℕ) (p : Earliest d d.count i) (budget : suc k ≤ (server_at d i).remaining.ticks)
      (work : suc k ≤ (server_at d i).waiting.ticks) where
    ready_earliest : Earliest (ready w t) (ready w t).count i
    ready_earliest = subst (λ (x : Dispatcher). Earliest x x.count i) is_ready p

    ready_budget : suc k ≤ (server_at (ready w t) i).remaining.ticks
    ready_budget = subst (λ (x : Dispatcher). suc k ≤ (server_at x i).remaining.ticks) is_ready budget

    ready_work : suc k ≤ (server_at (ready w t) i).waiting.ticks
    ready_work = subst (λ (x : Dispatcher). suc k ≤ (server_at x i).waiting.ticks) is_ready work

    ready_ok : Within (ready w t)
    ready_ok = subst Within is_ready (stands_within fit s (omega arith))

    pub event_at : ran_for d i (suc k) ≡ at_moment w (t + suc k)
    event_at =
        ap (λ (x : Dispatcher). ran_for x i (suc k)) is_ready
        ∙ sym (at_ran w t i k ready_ok clock_is ready_earliest quiet end ready_budget ready_work)

    pub event_turns : (q : ℕ) → q < suc k
        → turn w (t + q) ≡ gave (Ran i (server_at d i).deadline (eqb ((server_at d i).remaining.ticks - suc q) 0))
    event_turns =
        subst⁻¹
        (λ (x : Dispatcher). (q : ℕ) → q < suc k
        → turn w (t + q) ≡ gave (Ran i (server_at x i).deadline (eqb ((server_at x i).remaining.ticks - suc q) 0)))
        is_ready
        (turn_ran w t i k ready_ok clock_is ready_earliest quiet end ready_budget ready_work)

    pub event_history : (q : ℕ) → q < suc k → history w (t + q) ≡ given i (server_at d i).deadline
    event_history = history_ran w t i k (server_at d i).remaining.ticks (server_at d i).deadline event_turns

    pub event_served : ticks_served (history w) i (t + suc k) ≡ ticks_served (history w) i t + suc k
    event_served = served_own (history w) i t (suc k) (server_at d i).deadline event_history

    pub event_unserved : (n : ℕ) → (n ≡ i → ⊥) → ticks_served (history w) n (t + suc k) ≡ ticks_served (history w) n t
    event_unserved n other =
        served_other (history w) n t (suc k) (given i (server_at d i).deadline) (for_other n i (server_at d i).deadline other) event_history

    pub event_other : (n : ℕ) → (n ≡ i → ⊥) → server_at (ran_for d i (suc k)) n ≡ server_at d n
    event_other n other = get_or-set_other d.servers i n (served_for (server_at d i) (suc k)) vacant other

    pub event_own : server_at (ran_for d i (suc k)) i ≡ served_for (server_at d i) (suc k)
    event_own =
        get_or-set_same d.servers i (served_for (server_at d i) (suc k)) vacant
        (omega (arith, (stands_within fit s (omega arith)).places, (stands_within fit s (omega arith)).count, p.among))

    pub event_stands : Stands w (t + suc k) j (ran_for d i (suc k))
    event_stands = stands_later (ran_for d i (suc k)) event_at (λ n. adds n (ℕ_discrete n i))
      where
        adds : (n : ℕ) → Dec (n ≡ i)
            → ticks_served (history w) n (t + suc k) + (server_at (ran_for d i (suc k)) n).waiting.ticks ≡ work_of w n j
        adds n (yes q) =
            subst⁻¹ (λ (n : ℕ). ticks_served (history w) n (t + suc k) + (server_at (ran_for d i (suc k)) n).waiting.ticks ≡ work_of w n j) q
            (omega (
              arith,
              event_served,
              ap (λ (x : Server). x.waiting.ticks) event_own,
              served_waiting (server_at d i) (suc k),
              s.adds i,
            ))
        adds n (no other) =
            omega (arith, event_unserved n other, ap (λ (x : Server). x.waiting.ticks) (event_other n other), s.adds n)

  -- Nobody has work.
  module _ (none : NoneWorks d d.count) where
    ready_none : NoneWorks (ready w t) (ready w t).count
    ready_none = subst (λ (x : Dispatcher). NoneWorks x x.count) is_ready none

    pub idle_turns : (q : ℕ) → q < suc k → turn w (t + q) ≡ gave Idle
    idle_turns = turn_idle w t k clock_is ready_none quiet end

    pub idle_history : (q : ℕ) → q < suc k → history w (t + q) ≡ nobody
    idle_history = history_idle w t (suc k) idle_turns

    pub idle_unserved : (n : ℕ) → ticks_served (history w) n (t + suc k) ≡ ticks_served (history w) n t
    idle_unserved n = served_other (history w) n t (suc k) nobody (for_nobody n) idle_history

    pub idle_stands : Stands w (t + suc k) j (later_by d (suc k))
    idle_stands =
        stands_later (later_by d (suc k))
        (ap (λ (x : Dispatcher). later_by x (suc k)) is_ready ∙ sym (at_idle w t k clock_is ready_none quiet end))
        (λ n. omega (arith, idle_unserved n, s.adds n))
