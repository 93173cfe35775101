-- The segments of a run at moment t: those that ended, and the stretch that it is in.
use Prim.Native.Nat.{ℕ, suc, ◌+◌, ◌≤◌, ◌<◌}
use borrow.Author.Tests.{eq-eqb}
use mathlib.Core.Bool.{Bool, true, false}
use mathlib.Core.List.{List}
use mathlib.Core.Path.{◌≡◌, refl, sym, ◌∙◌, ap, ap₂, subst, subst⁻¹}
use native.Mathlib.Decide.{dec_lt}
use native.Mathlib.Omega.{arith}
use Rattle.clock.specs.Clock.{moment, ticks}
use Rattle.clock.specs.declared.Length.{Length}
use Rattle.clock.specs.declared.Moment.{Moment}
use Rattle.counting.proofs.TestLaws.{and_both, not_both}
use Rattle.history.specs.Choice.{nobody, given}
use Rattle.moments.specs.Moments.{history, waiting_at}
use Rattle.sizes.specs.Sizes.{most_servers}
use Rattle.workfile.specs.Work.{Work}
use Rattle.books.specs.declared.Current.{Current}
use Rattle.books.proofs.Book.{Run, lent_in, SegmentBook, segment_book, with_waits}
use Rattle.books.proofs.Stretches.Segments.{Segments, segments_lent, segments_end}
use Rattle.books.proofs.Stretches.Stretches.{chosen, chosen_in, chosen_server, chosen_nobody, InStretch, stretch_start, stretch_on, stretch_new}
use Rattle.books.proofs.Stretches.Turns.{stays, stays_same, turned, turned_stays, turned_ends, after_most, Bounded}

pub record Segmented (r : Run) (b : SegmentBook) (t : ℕ) : Type 0 where
  pub stretch : InStretch r.work b.current.start.tick t (chosen_in b.current)
  pub segments : Segments r b.list b.current.count b.current.start.tick
  -- in k ticks at most k segments end
  pub few : r.lent_at + b.current.count ≤ t
  pub waiting : b.current.server < most_servers → b.current.waits.ticks ≡ waiting_at r.work b.current.server t
  -- nobody is always told alike
  pub alike : most_servers ≤ b.current.server → (b.current.server ≡ most_servers) × (b.current.deadline.tick ≡ 0)

-- nobody, from the start on
abbrev pub at_rest : Current
at_rest = record { start = moment 0; server = most_servers; deadline = moment 0; waits = ticks 0; count = 0 }

pub segmented_start : (w : Work) (list finishes : List ℕ)
    → Segmented (lent_in w 0 at_rest list finishes) (segment_book list at_rest) 0
segmented_start w list finishes =
    record {
      stretch = subst⁻¹ (InStretch w 0 0) (chosen_nobody most_servers (moment 0) (omega arith)) (stretch_start w);
      segments = segments_lent w 0 at_rest list finishes;
      few = omega arith;
      waiting = λ b. let no : ⊥ = omega arith in absurd no;
      alike = λ b. (refl, refl);
    }

module _ {r : Run} {b : SegmentBook} {t : ℕ} (s : Segmented r b t) where
  abbrev w : Work
  w = r.work

  abbrev c : Current
  c = b.current

  pub segmented_bounded : Bounded t t b
  segmented_bounded = record { from = s.stretch.from; counted = omega (arith, s.few) }

  -- the next k + 1 ticks are all given to server i under deadline d, or to nobody
  module _ (k i : ℕ) (waits : Length) (d : Moment) (nobody_is : most_servers ≤ i → (i ≡ most_servers) × (d.tick ≡ 0))
      (all : (q : ℕ) → q < suc k → history w (t + q) ≡ chosen i d)
      (waiting : i < most_servers → waits.ticks ≡ waiting_at w i (t + suc k)) where
    differ : stays c i d ≡ false → chosen_in c ≡ chosen i d → ⊥
    unfolding stays
    differ e q = go (dec_lt c.server most_servers) (dec_lt i most_servers)
      where
        never : c.server ≡ i → c.deadline.tick ≡ d.tick → ⊥
        never a b = not_both (and_both (eq-eqb c.server i a) (eq-eqb c.deadline.tick d.tick b)) e

        go : Dec (c.server < most_servers) → Dec (i < most_servers) → ⊥
        go (yes l) (yes m) =
            let both : given c.server c.deadline ≡ given i d = sym (chosen_server c.server c.deadline l) ∙ q ∙ chosen_server i d m in
            let servers : c.server ≡ i = cc in
            let deadlines : c.deadline ≡ d = cc in
            never servers (ap (λ (x : Moment). x.tick) deadlines)
        go (yes l) (no m) =
            let both : given c.server c.deadline ≡ nobody
            = sym (chosen_server c.server c.deadline l) ∙ q ∙ chosen_nobody i d (omega arith) in
            let zero_one : ◌≡◌ {A = ℕ} 0 1 = cc in
            omega arith
        go (no l) (yes m) =
            let both : nobody ≡ given i d
            = sym (chosen_nobody c.server c.deadline (omega arith)) ∙ q ∙ chosen_server i d m in
            let zero_one : ◌≡◌ {A = ℕ} 0 1 = cc in
            omega arith
        go (no l) (no m) =
            let was = s.alike (omega arith) in
            let is = nobody_is (omega arith) in
            never (was.0 ∙ sym is.0) (was.1 ∙ sym is.1)

    pub segmented_then : Segmented r (with_waits (turned b t i d) waits) (t + suc k)
    segmented_then = go (stays c i d) refl
      where
        goes_on : (c.server ≡ i) × (c.deadline ≡ d) → Segmented r (with_waits b waits) (t + suc k)
        goes_on (a, b) =
            record {
              stretch = stretch_on s.stretch k (λ q l. all q l ∙ ap₂ chosen (sym a) (sym b));
              segments = s.segments;
              few = omega (arith, s.few);
              waiting = λ l. waiting (subst (λ (n : ℕ). n < most_servers) a l) ∙ ap (λ (n : ℕ). waiting_at w n (t + suc k)) (sym a);
              alike = s.alike;
            }

        go : (x : Bool) → stays c i d ≡ x → Segmented r (with_waits (turned b t i d) waits) (t + suc k)
        go true e =
            subst⁻¹ (λ (x : SegmentBook). Segmented r (with_waits x waits) (t + suc k)) (turned_stays b t i d e)
            (goes_on (stays_same c i d e))
        go false e =
            subst⁻¹ (λ (x : SegmentBook). Segmented r (with_waits x waits) (t + suc k)) (turned_ends b t i d e)
            record {
              stretch = stretch_new s.stretch k (chosen i d) (differ e) all;
              segments = segments_end c s.stretch s.segments;
              few = omega (arith, after_most c, s.few);
              waiting = waiting;
              alike = nobody_is;
            }
