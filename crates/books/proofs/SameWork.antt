-- Two works that hold the same below their counts are judged alike and run alike: no definition looks at a server from n on or at an arrival
-- from m on.
use Prim.Native.Nat.{ℕ, zero, suc, ◌≤◌, ◌<◌}
use borrow.Author.Tests.{le-ltb}
use lib.Dec.{eqb, leb, ltb}
use lib.ListN.{length}
use mathlib.Core.Bool.{cond, ◌&&◌}
use mathlib.Core.List.{List, [], ◌∷◌, ◌++◌}
use mathlib.Core.Path.{◌≡◌, refl, ◌∙◌, ap, ap₂, fun_ext}
use native.Mathlib.Decide.{dec_lt}
use native.Mathlib.Omega.{arith}
use Rattle.arrival.specs.Arrival.{faulty_arrival}
use Rattle.arrival.specs.declared.Arrival.{Arrival}
use Rattle.booking.proofs.AdmissionLaws.{admission_same}
use Rattle.booking.specs.declared.Booking.{Booking}
use Rattle.clock.specs.Clock.{moment, until}
use Rattle.clock.specs.declared.Length.{Length}
use Rattle.clock.specs.declared.Moment.{Moment}
use Rattle.counting.proofs.CountLaws.{count_same}
use Rattle.counting.proofs.PlacesLaws.{places_same}
use Rattle.counting.proofs.SumLaws.{sum_same}
use Rattle.dispatcher.specs.Moves.{arrival, tick}
use Rattle.dispatcher.specs.Pick.{server_at}
use Rattle.dispatcher.specs.Start.{at_start, start_at}
use Rattle.dispatcher.specs.declared.Dispatcher.{Dispatcher}
use Rattle.finish.specs.Finish.{Finish, cost_for, finished_at, is_open, served_by, work_of, is_job}
use Rattle.history.specs.Choice.{History, is_for_another}
use Rattle.judgement.specs.Judgement.{arrival_judged, arrivals_judged, finishes_judged, work_judged}
use Rattle.moments.specs.Moments.{at_moment, choice_of, history, postponed_by, postpones, ready, taken, turn, waiting_at}
use Rattle.refusal.specs.Refusals.{Said, accepted, and_then, refused}
use Rattle.server.specs.Server.{fresh, vacant}
use Rattle.server.specs.declared.Server.{Server}
use Rattle.sizes.specs.Sizes.{most_servers}
use Rattle.summary.specs.Summary.{arrived_of, blank, finished_of, finishes, how_many, interrupted_of, response_in, response_of, responses, responses_of, summaries, summary_by, summary_of, trace_of}
use Rattle.summary.specs.declared.Summary.{Summary}
use Rattle.trace.specs.Ticks.{end_of}
use Rattle.trace.specs.Trace.{trace}
use Rattle.trace.specs.declared.Segment.{Segment}
use Rattle.workfile.specs.Work.{Work}

module _ (H : Length) (N : Moment) (n m : ℕ) {b b' : ℕ → Booking} {a a' : ℕ → Arrival} (same_b : (k : ℕ) → k < n → b k ≡ b' k)
    (same_a : (k : ℕ) → k < m → a k ≡ a' k) where
  abbrev w : Work
  w = record { frame = H; horizon = N; table = record { count = n; booking = b }; arrivals = m; arrival = a }

  abbrev v : Work
  v = record { frame = H; horizon = N; table = record { count = n; booking = b' }; arrivals = m; arrival = a' }

  -- The judgement.
  arrival_judged_same : (k : ℕ) → k < m → arrival_judged w k ≡ arrival_judged v k
  unfolding arrival_judged
  arrival_judged_same zero l =
      ap (λ (x : Arrival). cond (faulty_arrival n x.server x.cost) (refused 6 0) (cond (leb N.tick x.moment.tick) (refused 8 0) accepted))
      (same_a 0 l)
  arrival_judged_same (suc k) l =
      ap₂ (λ (x y : Arrival). cond (faulty_arrival n x.server x.cost) (refused 6 (suc k))
      (cond (ltb x.moment.tick y.moment.tick) (refused 7 (suc k)) (cond (leb N.tick x.moment.tick) (refused 8 (suc k)) accepted)))
      (same_a (suc k) l)
      (same_a k (omega arith))

  arrivals_judged_same : (k : ℕ) → k ≤ m → arrivals_judged w k ≡ arrivals_judged v k
  unfolding arrivals_judged
  arrivals_judged_same zero l = refl
  arrivals_judged_same (suc k) l = ap₂ and_then (arrivals_judged_same k (omega arith)) (arrival_judged_same k l)

  pub work_judged_same : (places : ℕ) → work_judged w places ≡ work_judged v places
  unfolding work_judged
  work_judged_same places =
      ap₂ (λ (s r : Said (Unit {0})). and_then s (and_then r (finishes_judged w places))) (admission_same H n same_b) (arrivals_judged_same m (omega arith))

  -- The run, moment by moment.
  start_same : at_start H w.table ≡ at_start H v.table
  unfolding at_start
  start_same =
      ap (λ (l : List Server). record { frame = H; count = n; clock = moment 0; servers = l })
      (places_same most_servers (start_at w.table) (start_at v.table) (λ i c. go i (dec_lt i n)))
    where
      go : (i : ℕ) → Dec (i < n) → start_at w.table i ≡ start_at v.table i
      go i (yes l) = ap (λ (x : Booking). cond (ltb i n) (fresh x) vacant) (same_b i l)
      go i (no l) = rw (le-ltb i n (omega arith))

  taken_same : (k : ℕ) → k ≤ m → (d : Dispatcher) → taken w k d ≡ taken v k d
  unfolding taken
  taken_same zero l d = refl
  taken_same (suc k) l d =
      ap₂ (λ (x : Arrival) (y : Dispatcher). cond (eqb x.moment.tick d.clock.tick) (arrival y x.server x.cost).dispatcher y)
      (same_a k l)
      (taken_same k (omega arith) d)

  at_same : (t : ℕ) → at_moment w t ≡ at_moment v t
  unfolding at_moment
  at_same zero = start_same
  at_same (suc t) =
      ap (λ (d : Dispatcher). (tick (taken w m d)).dispatcher) (at_same t)
      ∙ ap (λ (d : Dispatcher). (tick d).dispatcher) (taken_same m (omega arith) (at_moment v t))

  ready_same : (t : ℕ) → ready w t ≡ ready v t
  unfolding ready
  ready_same t = ap (taken w m) (at_same t) ∙ taken_same m (omega arith) (at_moment v t)

  turn_same : (t : ℕ) → turn w t ≡ turn v t
  unfolding turn
  turn_same t = ap (λ (d : Dispatcher). (tick d).answer) (ready_same t)

  pub history_same : history w ≡ history v
  unfolding history
  history_same = fun_ext (λ t. ap choice_of (turn_same t))

  pub trace_same : trace_of w ≡ trace_of v
  trace_same = ap (λ (h : History). trace h N.tick) history_same

  -- Its finishes and its records.
  work_same : (i k : ℕ) → k ≤ m → work_of w i k ≡ work_of v i k
  unfolding work_of
  work_same i k l =
      sum_same k (cost_for w i) (cost_for v i)
      (λ j c. ap (λ (x : Arrival). cond (eqb x.server i) x.cost.ticks 0) (same_a j (omega arith)))

  pub finish_same : (k : ℕ) → k < m → finishes w k ≡ finishes v k
  finish_same k l =
      ap (λ (h : History). served_by h (a k).server (work_of w (a k).server (suc k)) N.tick) history_same
      ∙ ap (λ (x : ℕ). served_by (history v) (a k).server x N.tick) (work_same (a k).server (suc k) l)
      ∙ ap (λ (x : Arrival). served_by (history v) x.server (work_of v x.server (suc k)) N.tick) (same_a k l)

  arrived_same : (i : ℕ) → arrived_of w i ≡ arrived_of v i
  unfolding arrived_of
  arrived_same i = count_same m (is_job w i) (is_job v i) (λ k l. ap (λ (x : Arrival). eqb x.server i) (same_a k l))

  responses_same : (i k : ℕ) → k ≤ m → responses_of w (finishes w) i k ≡ responses_of v (finishes v) i k
  unfolding responses_of
  responses_same i zero l = refl
  responses_same i (suc k) l =
      ap₂ (λ (r : List ℕ) (x : Finish). r ++ cond (is_job w i k) (response_of w k x) []) (responses_same i k (omega arith)) (finish_same k l)
      ∙ ap (λ (r : List ℕ). responses_of v (finishes v) i k ++ r) (go (finishes v k))
    where
      go : (x : Finish) → cond (is_job w i k) (response_of w k x) [] ≡ cond (is_job v i k) (response_of v k x) []
      go is_open = ap (λ (y : Arrival). cond (eqb y.server i) [] []) (same_a k l)
      go (finished_at t) = ap (λ (y : Arrival). cond (eqb y.server i) ((until y.moment t).ticks ∷ []) []) (same_a k l)

  waiting_same : (i : ℕ) → waiting_at w i ≡ waiting_at v i
  unfolding waiting_at
  waiting_same i = fun_ext (λ t. ap (λ (d : Dispatcher). (server_at d i).waiting.ticks) (at_same t))

  -- the interruptions by what waits, what the ticks are given to, and the trace
  counted_by : ℕ → (ℕ → ℕ) → History → List Segment → ℕ
  counted_by i waiting h =
      how_many (λ s.
      eqb s.server i
      && (ltb (end_of s).tick N.tick && ltb 0 (waiting (end_of s).tick) && is_for_another i (h (end_of s).tick)))

  interrupted_same : (i : ℕ) → interrupted_of w i ≡ interrupted_of v i
  unfolding interrupted_of counted_by
  interrupted_same i =
      ap₂ (λ (f : ℕ → ℕ) (h : History). counted_by i f h (trace_of w)) (waiting_same i) history_same
      ∙ ap (counted_by i (waiting_at v i) (history v)) trace_same

  postponed_same : (i : ℕ) → postponed_by w i N.tick ≡ postponed_by v i N.tick
  unfolding postponed_by
  postponed_same i =
      count_same N.tick (postpones w i) (postpones v i)
      (λ u l.
      ap₂ (λ (d e : Dispatcher). ltb (server_at d i).deadline.tick (server_at e i).deadline.tick) (ready_same u) (at_same (suc u)))

  pub summary_same : (i : ℕ) → summary_of w i ≡ summary_of v i
  unfolding summary_of finished_of responses
  summary_same i =
      ap₂ (λ (x : ℕ) (r : List ℕ). record {
        arrived = x;
        finished = length r;
        postponed = postponed_by w i N.tick;
        interrupted = interrupted_of w i;
        response = response_in r;
      })
      (arrived_same i)
      (responses_same i m (omega arith))
      ∙ ap₂ (λ (p q : ℕ). summary_by v (finishes v) p q i) (postponed_same i) (interrupted_same i)

  pub summaries_same : summaries w ≡ summaries v
  unfolding summaries
  summaries_same = places_same most_servers _ _ (λ i l. ap (λ (s : Summary). cond (ltb i n) s blank) (summary_same i))
