-- The interruptions of each server, of the segments that ended before the stretch that a run is in.
use Prim.Native.Nat.{ℕ, ◌+◌, ◌-◌, ◌≤◌, ◌<◌}
use borrow.Author.Tests.{eq-eqb, ne_eqb}
use lib.Dec.{eqb}
use lib.ListN.{length, get_or, replicate, set, length-replicate, length-set, get_or-replicate, get_or-eq_default}
use lib.Seq.{get_or-set_same, get_or-set_other}
use mathlib.Core.Bool.{Bool, true, false, cond, ◌&&◌}
use mathlib.Core.List.{List, append-nil}
use mathlib.Core.Path.{◌≡◌, refl, sym, ◌∙◌, ap, subst, subst⁻¹}
use native.Mathlib.Decide.{dec_lt, ℕ_discrete}
use native.Mathlib.Nat.{add-sub_of_le, add-zero}
use native.Mathlib.Omega.{arith}
use Rattle.clock.specs.declared.Moment.{Moment}
use Rattle.counting.proofs.TestLaws.{and_false}
use Rattle.history.specs.Choice.{nobody, given}
use Rattle.moments.specs.Moments.{history, waiting_at}
use Rattle.sizes.specs.Sizes.{most_servers}
use Rattle.summary.proofs.BoundLaws.{how_many_le}
use Rattle.summary.proofs.InterruptedLaws.{ends_at_horizon, idle_interrupts_none, interrupted_by, of_nobody, not_by_itself, by_numbers}
use Rattle.summary.specs.Summary.{how_many, interrupted_at, interrupted_of}
use Rattle.trace.proofs.SegmentLaws.{begun_few}
use Rattle.trace.proofs.TickLaws.{sum_over_append}
use Rattle.trace.specs.Ticks.{end_of, sum_over}
use Rattle.trace.specs.Trace.{begun, segments_of, trace}
use Rattle.trace.specs.declared.Segment.{Segment}
use Rattle.workfile.specs.Work.{Work}
use Rattle.books.specs.declared.Current.{Current}
use Rattle.books.proofs.Stretches.Stretches.{chosen_in, chosen_server, chosen_nobody, InStretch, stretch_trace}

-- server i has the next tick: where the stretch is interrupted by that, its server has one interruption more
unfoldable pub interruptions_after : Current → ℕ → List ℕ → List ℕ
interruptions_after c i list =
    cond (interrupted_by c.server c.waits.ticks i) (set list c.server (get_or list c.server 0 + 1)) list

module _ (c : Current) (i : ℕ) (list : List ℕ) where
  pub one_more : interrupted_by c.server c.waits.ticks i ≡ true
      → interruptions_after c i list ≡ set list c.server (get_or list c.server 0 + 1)
  unfolding interruptions_after
  one_more e = rw e refl

  pub none_more : interrupted_by c.server c.waits.ticks i ≡ false → interruptions_after c i list ≡ list
  unfolding interruptions_after
  none_more e = rw e refl

  -- a server does not interrupt itself
  pub none_of_itself : c.server ≡ i → interruptions_after c i list ≡ list
  none_of_itself own = none_more (ap (interrupted_by c.server c.waits.ticks) (sym own) ∙ not_by_itself c.server c.waits.ticks)

-- the test of `interrupted_of`
abbrev is_interrupted : Work → ℕ → Segment → Bool
is_interrupted w j s = eqb s.server j && interrupted_at w j (end_of s).tick

-- each count is that of the segments that ended by e
pub record Interruptions (w : Work) (e : ℕ) (list : List ℕ) : Type 0 where
  pub places : length list ≡ most_servers
  pub each : (j : ℕ) → j < most_servers → get_or list j 0 ≡ how_many (is_interrupted w j) (trace (history w) e)

pub interruptions_start : (w : Work) → Interruptions w 0 (replicate most_servers 0)
unfolding begun how_many sum_over
interruptions_start w =
    record { places = length-replicate {A = ℕ} most_servers 0; each = λ j b. get_or-replicate most_servers j 0 0 b }

-- there are no more of them than ticks
pub interruptions_few : {w : Work} {e : ℕ} {list : List ℕ} → Interruptions w e list → (j : ℕ) → get_or list j 0 ≤ e
interruptions_few {w} {e} {list} x j = go (dec_lt j most_servers)
  where
    go : Dec (j < most_servers) → get_or list j 0 ≤ e
    go (yes l) = omega (arith, x.each j l, how_many_le (is_interrupted w j) (trace (history w) e), begun_few (history w) e e)
    go (no l) = omega (arith, get_or-eq_default list 0 {n = j} (omega (arith, x.places)))

-- The stretch c ends at t.
module _ {w : Work} {t : ℕ} (c : Current) (s : InStretch w c.start.tick t (chosen_in c)) where
  abbrev before : ℕ → ℕ
  before j = how_many (is_interrupted w j) (trace (history w) c.start.tick)

  abbrev after : ℕ → ℕ
  after j = how_many (is_interrupted w j) (trace (history w) t)

  -- one segment more, of its own server alone
  ended : {i : ℕ} {d : Moment} → chosen_in c ≡ given i d → (j : ℕ) → after j ≡ before j + cond (eqb i j && interrupted_at w j t) 1 0
  unfolding how_many sum_over
  ended {i} {d} own j =
      ap (how_many (is_interrupted w j)) (stretch_trace (subst (InStretch w c.start.tick t) own s))
      ∙ sum_over_append _ (trace (history w) c.start.tick) (segments_of (given i d) c.start.tick (t - c.start.tick))
      ∙ ap (λ (n : ℕ). before j + n)
      (add-zero (cond (eqb i j && interrupted_at w j (c.start.tick + (t - c.start.tick))) 1 0)
      ∙ ap (λ (u : ℕ). cond (eqb i j && interrupted_at w j u) 1 0) (add-sub_of_le s.from))

  -- or none, where nobody ran
  none_ended : chosen_in c ≡ nobody → (j : ℕ) → after j ≡ before j
  none_ended own j =
      ap (how_many (is_interrupted w j))
      (stretch_trace (subst (InStretch w c.start.tick t) own s) ∙ append-nil (trace (history w) c.start.tick))

  -- it does not count
  uncounted : (c.server < most_servers → interrupted_at w c.server t ≡ false) → (j : ℕ) → after j ≡ before j
  uncounted not_so j = go (dec_lt c.server most_servers)
    where
      go : Dec (c.server < most_servers) → after j ≡ before j
      go (no l) = none_ended (chosen_nobody c.server c.deadline (omega arith)) j
      go (yes l) = ended (chosen_server c.server c.deadline l) j ∙ none (ℕ_discrete c.server j)
        where
          none : Dec (c.server ≡ j) → before j + cond (eqb c.server j && interrupted_at w j t) 1 0 ≡ before j
          none (yes q) =
              subst (λ (n : ℕ). before n + cond (eqb c.server n && interrupted_at w n t) 1 0 ≡ before n) q
              (rw (not_so l, and_false (eqb c.server c.server)) (add-zero (before c.server)))
          none (no q) = rw (ne_eqb c.server j q) (add-zero (before j))

  -- or it does
  counted : c.server < most_servers → interrupted_at w c.server t ≡ true → (j : ℕ) → after j ≡ before j + cond (eqb c.server j) 1 0
  counted l so j = ended (chosen_server c.server c.deadline l) j ∙ own (ℕ_discrete c.server j)
    where
      own : Dec (c.server ≡ j)
          → before j + cond (eqb c.server j && interrupted_at w j t) 1 0 ≡ before j + cond (eqb c.server j) 1 0
      own (yes q) =
          subst (λ (n : ℕ). before n + cond (eqb c.server n && interrupted_at w n t) 1 0 ≡ before n + cond (eqb c.server n) 1 0) q
          (rw (eq-eqb c.server c.server refl, so) refl)
      own (no q) = rw (ne_eqb c.server j q) refl

  module _ {list : List ℕ} (x : Interruptions w c.start.tick list) where
    interruptions_same : (c.server < most_servers → interrupted_at w c.server t ≡ false) → Interruptions w t list
    interruptions_same not_so = record { places = x.places; each = λ j l. x.each j l ∙ sym (uncounted not_so j) }

    -- nobody has the next tick
    pub interruptions_idle : history w t ≡ nobody → Interruptions w t list
    interruptions_idle next = interruptions_same (λ l. idle_interrupts_none w c.server t next)

    interruptions_one : c.server < most_servers → interrupted_at w c.server t ≡ true
        → Interruptions w t (set list c.server (get_or list c.server 0 + 1))
    interruptions_one l so = record { places = simp length-set x.places; each = λ j b. each j b (ℕ_discrete c.server j) }
      where
        each : (j : ℕ) → j < most_servers → Dec (c.server ≡ j) → get_or (set list c.server (get_or list c.server 0 + 1)) j 0 ≡ after j
        each j b (yes q) =
            subst (λ (n : ℕ). get_or (set list c.server (get_or list c.server 0 + 1)) n 0 ≡ after n) q
            (get_or-set_same list c.server (get_or list c.server 0 + 1) 0 (omega (arith, x.places))
            ∙ ap (λ (n : ℕ). n + 1) (x.each c.server l)
            ∙ sym (counted l so c.server ∙ rw (eq-eqb c.server c.server refl) refl))
        each j b (no q) =
            get_or-set_other list c.server j (get_or list c.server 0 + 1) 0 (λ e. q (sym e))
            ∙ x.each j b
            ∙ sym (counted l so j ∙ rw (ne_eqb c.server j q) (add-zero (before j)))

    -- server i has it
    pub interruptions_by : {i : ℕ} {d : Moment} → i < most_servers → history w t ≡ given i d → t < w.horizon.tick
        → (c.server < most_servers → c.waits.ticks ≡ waiting_at w c.server t) → Interruptions w t (interruptions_after c i list)
    interruptions_by {i} its next in_time waiting = go (dec_lt c.server most_servers) (interrupted_by c.server c.waits.ticks i) refl
      where
        told : c.server < most_servers → interrupted_at w c.server t ≡ interrupted_by c.server c.waits.ticks i
        told l = by_numbers w next l its in_time ∙ ap (λ (n : ℕ). interrupted_by c.server n i) (sym (waiting l))

        go : Dec (c.server < most_servers) → (b : Bool) → interrupted_by c.server c.waits.ticks i ≡ b
            → Interruptions w t (interruptions_after c i list)
        go (no l) b e =
            subst⁻¹ (Interruptions w t) (none_more c i list (of_nobody c.server c.waits.ticks i (omega arith)))
            (interruptions_same (λ m. let no : ⊥ = omega arith in absurd no))
        go (yes l) true e = subst⁻¹ (Interruptions w t) (one_more c i list e) (interruptions_one l (told l ∙ e))
        go (yes l) false e = subst⁻¹ (Interruptions w t) (none_more c i list e) (interruptions_same (λ m. told l ∙ e))

-- At the horizon the last stretch ends, and that does not count.
pub interrupted_whole : {w : Work} (c : Current) → InStretch w c.start.tick w.horizon.tick (chosen_in c) → (j : ℕ)
    → interrupted_of w j ≡ how_many (is_interrupted w j) (trace (history w) c.start.tick)
unfolding interrupted_of
interrupted_whole {w} c s j = uncounted c s (λ l. ends_at_horizon w c.server w.horizon.tick (omega arith)) j
