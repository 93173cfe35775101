-- Where server i is picked and k is at most its budget and its work, k ticks are one step; where nobody has work, they are idle.
use Prim.Native.Nat.{ℕ, zero, suc, ◌+◌, ◌-◌, ◌≤◌, ◌<◌}
use borrow.Author.Tests.{eq-eqb, ne_eqb}
use lib.Dec.{eqb}
use lib.ListN.{length, set}
use lib.Seq.{get_or-set_same, get_or-set_other, set-get_or, set-set}
use mathlib.Core.Bool.{Bool, true, false, cond}
use mathlib.Core.List.{List}
use mathlib.Core.Path.{◌≡◌, refl, sym, ◌∙◌, ap, ap₂, subst, subst⁻¹}
use native.Mathlib.Decide.{ℕ_discrete}
use native.Mathlib.Nat.{add-suc, add-zero, sub-zero}
use native.Mathlib.Omega.{arith}
use Rattle.clock.specs.Clock.{moment, ticks}
use Rattle.dispatcher.proofs.MoveLaws.{tick_ran, tick_idle}
use Rattle.dispatcher.proofs.PickLaws.{earliest_picked, none_picked}
use Rattle.dispatcher.specs.Moves.{Answered, leaving, standing, with_server, one_later, ran, tick}
use Rattle.dispatcher.specs.declared.Turn.{Turn}
use Rattle.dispatcher.specs.declared.Turn.TheVariants.{Idle, Ran}
use Rattle.dispatcher.specs.Pick.{server_at, picked, Earliest, NoneWorks}
use Rattle.dispatcher.specs.Within.{Within}
use Rattle.dispatcher.specs.declared.Dispatcher.{Dispatcher}
use Rattle.refusal.specs.Refusals.{Said, gave}
use Rattle.server.proofs.PassedOverLaws.{busy_not_passed_over}
use Rattle.server.specs.Moves.{one_tick_less, postponed, served, spent}
use Rattle.server.specs.Server.{holding, vacant, passed_over}
use Rattle.server.specs.declared.Server.{Server}
use Rattle.sizes.specs.Sizes.{clock_end}
use Rattle.workfile.specs.Work.{Work}
use Rattle.moments.specs.Moments.{taken, at_moment, ready, turn}
use Rattle.moments.proofs.OneGo.{less_by, served_for, later_by, ran_for}

-- One server.
module _ (s : Server) where
  pub served_less : (k : ℕ) → k < s.remaining.ticks → served_for s k ≡ less_by s k
  unfolding served_for
  served_less k h = rw (ne_eqb (s.remaining.ticks - k) 0 (omega arith))

  pub served_spent : (k : ℕ) → s.remaining.ticks ≤ k → served_for s k ≡ postponed (less_by s k)
  unfolding served_for
  served_spent k h = rw (eq-eqb (s.remaining.ticks - k) 0 (omega arith))

  pub served_waiting : (k : ℕ) → (served_for s k).waiting.ticks ≡ s.waiting.ticks - k
  unfolding served_for
  served_waiting k = go (eqb (s.remaining.ticks - k) 0)
    where
      go : (b : Bool) → (cond b (postponed (less_by s k)) (less_by s k)).waiting.ticks ≡ s.waiting.ticks - k
      go true = refl
      go false = refl

  pub served_budget : (k : ℕ) → (served_for s k).budget ≡ s.budget
  unfolding served_for
  served_budget k = go (eqb (s.remaining.ticks - k) 0)
    where
      go : (b : Bool) → (cond b (postponed (less_by s k)) (less_by s k)).budget ≡ s.budget
      go true = refl
      go false = refl

  less_none : less_by s 0 ≡ s
  less_none = rw (sub-zero s.remaining.ticks, sub-zero s.waiting.ticks)

  one_less : (k : ℕ) → one_tick_less (less_by s k) ≡ less_by s (suc k)
  one_less k =
      ap₂ (λ (c w : ℕ). holding s (ticks c) s.deadline (ticks w))
      budget_less work_less
    where
      budget_less : s.remaining.ticks - k - 1 ≡ s.remaining.ticks - suc k
      budget_less = omega arith

      work_less : s.waiting.ticks - k - 1 ≡ s.waiting.ticks - suc k
      work_less = omega arith

  -- one tick more
  pub served_once_more : (k : ℕ) → k < s.remaining.ticks → served (served_for s k) ≡ served_for s (suc k)
  unfolding served served_for
  served_once_more k h =
      ap served (served_less k h) ∙ ap (λ (r : Server). cond (spent r) (postponed r) r) (one_less k)

-- A dispatcher of which server i is picked, while i has budget and work left.
module _ (d : Dispatcher) (i : ℕ) (ok : Within d) (p : Earliest d d.count i) where
  here : i < length d.servers
  here = omega (arith, ok.places, ok.count, p.among)

  pub ran_none : 0 < (server_at d i).remaining.ticks → ran_for d i 0 ≡ d
  ran_none c =
      ap₂ (λ (t : ℕ) (l : List Server). standing d (moment t) l)
      (add-zero d.clock.tick)
      (ap (set d.servers i) (served_less (server_at d i) 0 c ∙ less_none (server_at d i)) ∙ set-get_or d.servers i vacant)

  own : (k : ℕ) → k < (server_at d i).remaining.ticks → server_at (ran_for d i k) i ≡ less_by (server_at d i) k
  own k c =
      get_or-set_same d.servers i (served_for (server_at d i) k) vacant here ∙ served_less (server_at d i) k c

  pub other : (k j : ℕ) → (j ≡ i → ⊥) → server_at (ran_for d i k) j ≡ server_at d j
  other k j n = get_or-set_other d.servers i j (served_for (server_at d i) k) vacant n

  -- the pick stays: it depends on who is passed over and on the deadlines
  still_earliest : (k : ℕ) → k < (server_at d i).remaining.ticks → k < (server_at d i).waiting.ticks
      → Earliest (ran_for d i k) d.count i
  still_earliest k c w =
      record {
        among = p.among;
        works =
            subst⁻¹ (λ (s : Server). passed_over s ≡ false) (own k c)
            (busy_not_passed_over (less_by (server_at d i) k) (ne_eqb ((server_at d i).waiting.ticks - k) 0 (omega arith)) (omega arith));
        least = λ j b v. least j b v (ℕ_discrete j i);
        ties = λ j b v q. ties j b v q (ℕ_discrete j i);
      }
    where
      deadline : (server_at (ran_for d i k) i).deadline.tick ≡ (server_at d i).deadline.tick
      deadline = ap (λ (s : Server). s.deadline.tick) (own k c)

      least : (j : ℕ) → j < d.count → passed_over (server_at (ran_for d i k) j) ≡ false → Dec (j ≡ i)
          → (server_at (ran_for d i k) i).deadline.tick ≤ (server_at (ran_for d i k) j).deadline.tick
      least j b v (yes q) = subst⁻¹ (λ (n : ℕ). (server_at (ran_for d i k) i).deadline.tick ≤ (server_at (ran_for d i k) n).deadline.tick) q (omega arith)
      least j b v (no n) =
          subst⁻¹ (λ (s : Server). (server_at (ran_for d i k) i).deadline.tick ≤ s.deadline.tick) (other k j n)
          (omega (arith, deadline, p.least j b (subst (λ (s : Server). passed_over s ≡ false) (other k j n) v)))

      ties : (j : ℕ) → j < d.count → passed_over (server_at (ran_for d i k) j) ≡ false
          → (server_at (ran_for d i k) j).deadline.tick ≡ (server_at (ran_for d i k) i).deadline.tick → Dec (j ≡ i) → i ≤ j
      ties j b v q (yes e) = omega arith
      ties j b v q (no n) =
          p.ties j b (subst (λ (s : Server). passed_over s ≡ false) (other k j n) v)
          (sym (ap (λ (s : Server). s.deadline.tick) (other k j n)) ∙ q ∙ deadline)

  -- one tick more of the same
  pub tick_same : (k : ℕ) → k < (server_at d i).remaining.ticks → k < (server_at d i).waiting.ticks → d.clock.tick + k < clock_end
      → tick (ran_for d i k)
      ≡ record {
        answer = gave (Ran i (server_at d i).deadline (eqb ((server_at d i).remaining.ticks - suc k) 0));
        dispatcher = ran_for d i (suc k);
      }
  unfolding ran
  tick_same k c w e =
      tick_ran (ran_for d i k) (λ q. omega arith) (subst⁻¹ (λ (n : ℕ). n < d.count) picks p.among)
      ∙ ap (ran (ran_for d i k)) picks
      ∙ ap₂ (λ (a : Said Turn) (x : Dispatcher). record { answer = a; dispatcher = x }) answer moved
    where
      picks : picked (ran_for d i k) ≡ i
      picks = earliest_picked (ran_for d i k) i (still_earliest k c w)

      answer : gave (Ran i (server_at (ran_for d i k) i).deadline (spent (one_tick_less (server_at (ran_for d i k) i))))
          ≡ gave (Ran i (server_at d i).deadline (eqb ((server_at d i).remaining.ticks - suc k) 0))
      answer =
          ap (λ (s : Server). gave (Ran i s.deadline (spent (one_tick_less s)))) (own k c)
          ∙ ap (λ (s : Server). gave (Ran i s.deadline (spent s))) (one_less (server_at d i) k)

      moved : one_later (with_server (ran_for d i k) i (served (server_at (ran_for d i k) i))) ≡ ran_for d i (suc k)
      moved =
          ap₂ (λ (t : ℕ) (l : List Server). standing d (moment t) l)
          clock_more
          (set-set d.servers i (served_for (server_at d i) k) (served (server_at (ran_for d i k) i))
          ∙ ap (λ (s : Server). set d.servers i (served s)) (get_or-set_same d.servers i (served_for (server_at d i) k) vacant here)
          ∙ ap (set d.servers i) (served_once_more (server_at d i) k c))
        where
          clock_more : d.clock.tick + k + 1 ≡ d.clock.tick + suc k
          clock_more = omega arith

-- A dispatcher of which nobody has work.
pub tick_same_idle : (d : Dispatcher) (k : ℕ) → NoneWorks d d.count → d.clock.tick + k < clock_end
    → tick (later_by d k) ≡ record { answer = gave Idle; dispatcher = later_by d (suc k) }
tick_same_idle d k none e =
    tick_idle (later_by d k) (λ q. omega arith) (omega (arith, none_picked (later_by d k) none))
    ∙ ap (λ (t : ℕ). leaving (gave Idle) (standing d (moment t) d.servers))
    clock_more
  where
    clock_more : d.clock.tick + k + 1 ≡ d.clock.tick + suc k
    clock_more = omega arith

-- The run of a work from a moment t on, while no arrival comes.
abbrev pub Quiet : Work → ℕ → ℕ → Type 0
Quiet w t k = (a q : ℕ) → a < w.arrivals → 0 < q → q < k → (w.arrival a).moment.tick ≡ t + q → ⊥

-- where none of the first k arrivals is of this moment none is taken
pub taken_none : (w : Work) (k : ℕ) (d : Dispatcher) → ((a : ℕ) → a < k → (w.arrival a).moment.tick ≡ d.clock.tick → ⊥) → taken w k d ≡ d
unfolding taken
taken_none w zero d none = refl
taken_none w (suc k) d none =
    rw (ne_eqb (w.arrival k).moment.tick d.clock.tick (none k (omega arith))) (taken_none w k d (λ a b. none a (omega arith)))

module _ (w : Work) (t : ℕ) (f : ℕ → Dispatcher) (answer : ℕ → Said Turn) (k : ℕ) (quiet : Quiet w t k) (start : ready w t ≡ f 0)
    (clock : (q : ℕ) → (f q).clock.tick ≡ t + q)
    (step : (q : ℕ) → q < k → tick (f q) ≡ record { answer = answer q; dispatcher = f (suc q) }) where
  at_next : (q : ℕ) → q < k → ready w (t + q) ≡ f q → at_moment w (t + suc q) ≡ f (suc q)
  unfolding at_moment ready
  at_next q b e =
      ap (at_moment w) (add-suc t q)
      ∙ ap (λ (x : Dispatcher). (tick x).dispatcher) e
      ∙ ap (λ (m : Answered Turn). m.dispatcher) (step q b)

  -- a run that ticks along f stays there
  pub ready_on : (q : ℕ) → q < k → ready w (t + q) ≡ f q
  unfolding ready
  ready_on zero b = ap (ready w) (add-zero t) ∙ start
  ready_on (suc q) b =
      ap (taken w w.arrivals) (at_next q (omega arith) (ready_on q (omega arith)))
      ∙ taken_none w w.arrivals (f (suc q)) (λ a l e. quiet a (suc q) l (omega arith) b (e ∙ clock (suc q)))

  pub at_on : (q : ℕ) → q < k → at_moment w (t + suc q) ≡ f (suc q)
  at_on q b = at_next q b (ready_on q b)

  pub turn_on : (q : ℕ) → q < k → turn w (t + q) ≡ answer q
  unfolding turn
  turn_on q b = ap (λ (x : Dispatcher). (tick x).answer) (ready_on q b) ∙ ap (λ (m : Answered Turn). m.answer) (step q b)

-- "In one go": server i, picked at t, for as many ticks as its budget and its work allow and no arrival comes.
module _ (w : Work) (t i k : ℕ) (ok : Within (ready w t)) (clock : (ready w t).clock.tick ≡ t)
    (p : Earliest (ready w t) (ready w t).count i) (quiet : Quiet w t (suc k)) (end : t + suc k ≤ clock_end)
    (budget : suc k ≤ (server_at (ready w t) i).remaining.ticks) (work : suc k ≤ (server_at (ready w t) i).waiting.ticks) where
  abbrev ran_answer : ℕ → Said Turn
  ran_answer q = gave (Ran i (server_at (ready w t) i).deadline (eqb ((server_at (ready w t) i).remaining.ticks - suc q) 0))

  pub at_ran : at_moment w (t + suc k) ≡ ran_for (ready w t) i (suc k)
  at_ran =
      at_on w t (ran_for (ready w t) i) ran_answer (suc k) quiet (sym (ran_none (ready w t) i ok p (omega arith)))
      (λ q. omega arith)
      (λ q b. tick_same (ready w t) i ok p q (omega arith) (omega arith) (omega arith))
      k
      (omega arith)

  pub turn_ran : (q : ℕ) → q < suc k
      → turn w (t + q)
      ≡ gave (Ran i (server_at (ready w t) i).deadline (eqb ((server_at (ready w t) i).remaining.ticks - suc q) 0))
  turn_ran =
      turn_on w t (ran_for (ready w t) i) ran_answer (suc k) quiet (sym (ran_none (ready w t) i ok p (omega arith)))
      (λ q. omega arith)
      (λ q b. tick_same (ready w t) i ok p q (omega arith) (omega arith) (omega arith))

-- and idle time
module _ (w : Work) (t k : ℕ) (clock : (ready w t).clock.tick ≡ t) (none : NoneWorks (ready w t) (ready w t).count)
    (quiet : Quiet w t (suc k)) (end : t + suc k ≤ clock_end) where
  later_none : later_by (ready w t) 0 ≡ ready w t
  later_none =
      ap (λ (u : ℕ). standing (ready w t) (moment u) (ready w t).servers)
      (add-zero (ready w t).clock.tick)

  pub at_idle : at_moment w (t + suc k) ≡ later_by (ready w t) (suc k)
  at_idle =
      at_on w t (later_by (ready w t)) (λ q. gave Idle) (suc k) quiet (sym later_none) (λ q. omega arith)
      (λ q b. tick_same_idle (ready w t) q none (omega arith))
      k
      (omega arith)

  pub turn_idle : (q : ℕ) → q < suc k → turn w (t + q) ≡ gave Idle
  turn_idle =
      turn_on w t (later_by (ready w t)) (λ q. gave Idle) (suc k) quiet (sym later_none) (λ q. omega arith)
      (λ q b. tick_same_idle (ready w t) q none (omega arith))
