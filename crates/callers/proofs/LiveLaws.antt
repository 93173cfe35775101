-- Demand 3 holds for whoever calls the live moves: by their contracts, after a successful opening, whatever is accepted or refused then.
use Prim.Native.Nat.{ℕ, ◌+◌, ◌≤◌, ◌<◌}
use mathlib.Core.Bool.{Bool, true, cond}
use mathlib.Core.List.{List, [], ◌∷◌, ◌++◌}
use mathlib.Core.Path.{◌≡◌, refl, sym, ◌∙◌, ap, ap₂, subst, subst⁻¹}
use native.Mathlib.Nat.{add-zero}
use Rattle.clock.specs.declared.Length.{Length}
use Rattle.clock.specs.declared.Moment.{Moment}
use Rattle.demand_3.proofs.CourseLaws.{under_nobody, after_both, after_last, got_both, got_last}
use Rattle.demand_3.proofs.Demand3Laws.{admitted_demand_3}
use Rattle.demand_3.proofs.StandingLaws.{Standing, start_standing, after_standing}
use Rattle.demand_3.specs.Demand3.{Demand3}
use Rattle.demand_3.specs.Got.{given_by, is_under, got, WithinBandwidth}
use Rattle.dispatcher.specs.Course.{Move, an_arrival, a_tick, moved, after}
use Rattle.dispatcher.specs.Moves.{Answered, arrival, reply_says, tick}
use Rattle.dispatcher.specs.declared.Turn.{Turn}
use Rattle.dispatcher.specs.declared.Turn.TheVariants.{Ran}
use Rattle.dispatcher.specs.Pick.{server_at}
use Rattle.dispatcher.specs.declared.Reply.{Reply}
use Rattle.dispatcher.specs.declared.Dispatcher.{Dispatcher}
use Rattle.moments.specs.Moments.{choice_of}
use Rattle.opening.proofs.OpeningLaws.{accepted_in_range, accepted_admitted, opening_accepted, opened_judged}
use Rattle.opening.specs.Opening.{listed, table_judged, opening}
use Rattle.refusal.specs.Refusals.{gave, accepted, on_paper}
use Rattle.std.specs.Prelude.{Ok}
use Rattle.server.specs.Server.{idle}
use Rattle.callers.specs.Live.{Led, LedCounting, OfAcceptedOpenings, WhereverMovesLead}

pub opening_demand_3 : OfAcceptedOpenings
opening_demand_3 l H e =
    let sizes = accepted_in_range l H e in
    rw (opening_accepted l H e) (admitted_demand_3 H (listed l) sizes.from sizes.to sizes.few (accepted_admitted l H e))

pub live_demand_3 : WhereverMovesLead
live_demand_3 start t demand d led =
    record {
      bandwidth = λ i known none b e n to. rw to.counted (bounded i known none b to.moves);
      deadlines_ahead = λ i known. rw (sym led.to) at (demand.deadlines_ahead led.moves i known);
      ticks_in_time = λ r e i deadline postponed answer.
          rw (ap (λ (m : Answered Turn). m.dispatcher) e)
          (in_time i deadline postponed (sym (ap (λ (m : Answered Turn). m.answer) e) ∙ ap on_paper answer));
    }
  where
    bounded : (i : ℕ) → i < t.count → idle (server_at d i) ≡ true → (b : Moment) (further : List Move)
        → WithinBandwidth (t.booking i) d.clock b (got i b d further)
    bounded i known = rw (sym led.to) at (demand.bandwidth led.moves i known)

    in_time : (i : ℕ) (deadline : Moment) (postponed : Bool) → (tick d).answer ≡ gave (Ran i deadline postponed)
        → (tick d).dispatcher.clock.tick ≤ deadline.tick
    in_time i deadline postponed = rw (sym led.to) at (demand.ticks_in_time led.moves i deadline postponed)

-- What a caller has by the contract of `open_table`, where it answers `Ok`.
module _ (l : List ℕ) (H : Length) (r : Reply (Unit {0})) (e : reply_says r ≡ opening l H) (answer : r.answer ≡ Ok tt) where
  judges : table_judged l H ≡ accepted
  judges = opened_judged l H r e answer

  pub opened_demand_3 : Demand3 r.dispatcher (listed l)
  opened_demand_3 =
      subst⁻¹ (λ (m : Answered (Unit {0})). Demand3 m.dispatcher (listed l)) e (opening_demand_3 l H judges)

  -- its numbers lie within their ranges, and its servers are those of the table, also wherever moves lead
  pub opened_standing : {d : Dispatcher} → Led r.dispatcher d → Standing (listed l) d
  opened_standing led =
      let sizes = accepted_in_range l H judges in
      rw (led.to, ap (λ (m : Answered (Unit {0})). m.dispatcher) e, opening_accepted l H judges)
      (after_standing
      (start_standing H (listed l) sizes.from sizes.to sizes.few (accepted_admitted l H judges))
      led.moves)

-- What the contracts of `arrival` and `tick` say of the dispatcher: it is the one after that move.
arrived_moved : (d : Dispatcher) (r : Reply (Unit {0})) (i : ℕ) (cost : Length) → reply_says r ≡ arrival d i cost
    → r.dispatcher ≡ moved d (an_arrival i cost)
arrived_moved d r i cost e = ap (λ (m : Answered (Unit {0})). m.dispatcher) e

ticked_moved : (d : Dispatcher) (r : Reply Turn) → reply_says r ≡ tick d → r.dispatcher ≡ moved d a_tick
ticked_moved d r e = ap (λ (m : Answered Turn). m.dispatcher) e

-- So moves have led there, with one more at their end.
moved_on : (start : Dispatcher) {d e : Dispatcher} (moves : List Move) → d ≡ after start moves → (m : Move) → e ≡ moved d m
    → e ≡ after start (moves ++ m ∷ [])
moved_on start moves to m is = is ∙ ap (λ (x : Dispatcher). moved x m) to ∙ sym (after_last start moves m)

-- How a caller gets on, move by move.
pub led_none : (d : Dispatcher) → Led d d
unfolding after
led_none d = record { moves = []; to = refl }

module _ {start d : Dispatcher} (led : Led start d) where
  pub led_moved : (m : Move) (e : Dispatcher) → e ≡ moved d m → Led start e
  led_moved m e is = record { moves = led.moves ++ m ∷ []; to = moved_on start led.moves led.to m is }

  pub led_arrived : (r : Reply (Unit {0})) (i : ℕ) (cost : Length) → reply_says r ≡ arrival d i cost → Led start r.dispatcher
  led_arrived r i cost e = led_moved (an_arrival i cost) r.dispatcher (arrived_moved d r i cost e)

  pub led_ticked : (r : Reply Turn) → reply_says r ≡ tick d → Led start r.dispatcher
  led_ticked r e = led_moved a_tick r.dispatcher (ticked_moved d r e)

-- And how it counts.
pub counting_none : (i : ℕ) (b : Moment) (d : Dispatcher) → LedCounting i b d d 0
unfolding after got
counting_none i b d = record { moves = []; to = refl; counted = refl }

module _ {i : ℕ} {b : Moment} {start d : Dispatcher} {n : ℕ} (led : LedCounting i b start d n) where
  pub counting_moved : (m : Move) (e : Dispatcher) → e ≡ moved d m → (more : ℕ) → more ≡ cond (is_under i b (given_by d m)) 1 0
      → LedCounting i b start e (n + more)
  counting_moved m e is more adds =
      record {
        moves = led.moves ++ m ∷ [];
        to = moved_on start led.moves led.to m is;
        counted =
            ap₂ ◌+◌ led.counted (adds ∙ ap (λ (x : Dispatcher). cond (is_under i b (given_by x m)) 1 0) led.to)
            ∙ sym (got_last i b start led.moves m);
      }

  -- by further moves, which are counted by themselves
  pub counting_further : {e : Dispatcher} {more : ℕ} → LedCounting i b d e more → LedCounting i b start e (n + more)
  counting_further then =
      record {
        moves = led.moves ++ then.moves;
        to = then.to ∙ ap (λ (x : Dispatcher). after x then.moves) led.to ∙ sym (after_both start led.moves then.moves);
        counted =
            ap₂ ◌+◌ led.counted (then.counted ∙ ap (λ (x : Dispatcher). got i b x then.moves) led.to)
            ∙ sym (got_both i b start led.moves then.moves);
      }

  -- an arrival counts nothing
  pub counting_arrived : (r : Reply (Unit {0})) (j : ℕ) (cost : Length) → reply_says r ≡ arrival d j cost → LedCounting i b start r.dispatcher n
  counting_arrived r j cost e =
      subst (LedCounting i b start r.dispatcher) (add-zero n)
      (counting_moved (an_arrival j cost) r.dispatcher (arrived_moved d r j cost e) 0 (rw (under_nobody i b)))

  -- a tick counts one where it answers server i and a deadline no later than b
  pub counting_ticked : (r : Reply Turn) → reply_says r ≡ tick d
      → LedCounting i b start r.dispatcher (n + cond (is_under i b (choice_of (on_paper r.answer))) 1 0)
  counting_ticked r e =
      counting_moved a_tick r.dispatcher (ticked_moved d r e) _
      (ap (λ (m : Answered Turn). cond (is_under i b (choice_of m.answer)) 1 0) e)
