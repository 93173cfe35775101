-- A tick of a run: it goes on with the stretch that the run is in, or ends it and begins another.
use Prim.Native.Nat.{ℕ, ◌+◌, ◌≤◌, ◌<◌}
use borrow.Author.Tests.{eqb-true, eq-eqb, ne_eqb}
use lib.Dec.{eqb, ltb}
use mathlib.Core.Bool.{Bool, true, false, cond, ◌&&◌}
use mathlib.Core.Path.{◌≡◌, refl, ◌∙◌, ap, subst⁻¹}
use native.Mathlib.Decide.{ℕ_discrete}
use native.Mathlib.Omega.{arith}
use Rattle.clock.specs.Clock.{last_tick, moment}
use Rattle.clock.specs.declared.Moment.{Moment}
use Rattle.counting.proofs.TestLaws.{and_left, and_right}
use Rattle.sizes.specs.Sizes.{most_servers}
use Rattle.books.specs.declared.Current.{Current}
use Rattle.books.proofs.Book.{SegmentBook, segment_book, with_waits}
use Rattle.books.proofs.Stretches.Segments.{list_after, count_after}

-- whether a tick given to server i under deadline d goes on with the current stretch
unfoldable pub stays : Current → ℕ → Moment → Bool
stays c i d = eqb c.server i && eqb c.deadline.tick d.tick

-- another stretch, which begins at t
abbrev pub next_stretch : Current → ℕ → ℕ → Moment → Current
next_stretch c t i d = record { start = moment t; server = i; deadline = d; waits = c.waits; count = count_after c }

-- the segments after that tick at t
unfoldable pub turned : SegmentBook → ℕ → ℕ → Moment → SegmentBook
turned b t i d =
    cond (stays b.current i d) b
    (segment_book (list_after b.current t b.list) (next_stretch b.current t i d))

module _ (b : SegmentBook) (t i : ℕ) (d : Moment) where
  -- the same server under the same deadline: nothing changes
  pub turned_stays : stays b.current i d ≡ true → turned b t i d ≡ b
  unfolding turned
  turned_stays e = rw e

  -- another: the stretch has ended
  pub turned_ends : stays b.current i d ≡ false
      → turned b t i d
      ≡ segment_book (list_after b.current t b.list) (next_stretch b.current t i d)
  unfolding turned
  turned_ends e = rw e

  -- what waits is told alike, whether the stretch goes on or another begins
  pub waits_kept : with_waits (turned b t i d) b.current.waits ≡ turned b t i d
  unfolding turned
  waits_kept = go (stays b.current i d)
    where
      begun : SegmentBook
      begun =
          segment_book (list_after b.current t b.list) (next_stretch b.current t i d)

      go : (x : Bool) → with_waits (cond x b begun) b.current.waits ≡ cond x b begun
      go true = refl
      go false = refl

  -- what holds of where the stretch began, whether it goes on or another begins at t
  pub turned_start : (P : ℕ → Type 0) → (stays b.current i d ≡ true → P b.current.start.tick) → (stays b.current i d ≡ false → P t)
      → P (turned b t i d).current.start.tick
  unfolding turned
  turned_start P on ends = go (stays b.current i d) refl
    where
      go : (x : Bool) → stays b.current i d ≡ x → P (turned b t i d).current.start.tick
      go true e = subst⁻¹ (λ (y : SegmentBook). P y.current.start.tick) (turned_stays e) (on e)
      go false e = subst⁻¹ (λ (y : SegmentBook). P y.current.start.tick) (turned_ends e) (ends e)

-- which of the two it is: under the same server the deadline tells
pub stays_server : (c : Current) (i : ℕ) (d : Moment) → c.server ≡ i → stays c i d ≡ eqb c.deadline.tick d.tick
unfolding stays
stays_server c i d e = rw (eq-eqb c.server i e)

pub stays_other : (c : Current) (i : ℕ) (d : Moment) → (c.server ≡ i → ⊥) → stays c i d ≡ false
unfolding stays
stays_other c i d n = rw (ne_eqb c.server i n)

-- the stretch after a tick is that tick's
pub turned_own : (b : SegmentBook) (t i : ℕ) (d : Moment)
    → ((turned b t i d).current.server ≡ i) × ((turned b t i d).current.deadline.tick ≡ d.tick)
turned_own b t i d = go (ℕ_discrete b.current.server i) (ℕ_discrete b.current.deadline.tick d.tick)
  where
    Own : Type 0
    Own = ((turned b t i d).current.server ≡ i) × ((turned b t i d).current.deadline.tick ≡ d.tick)

    another : stays b.current i d ≡ false → Own
    another e = (
      ap (λ (x : SegmentBook). x.current.server) (turned_ends b t i d e),
      ap (λ (x : SegmentBook). x.current.deadline.tick) (turned_ends b t i d e),
    )

    go : Dec (b.current.server ≡ i) → Dec (b.current.deadline.tick ≡ d.tick) → Own
    go (yes p) (yes q) =
        let e = turned_stays b t i d (stays_server b.current i d p ∙ eq-eqb _ _ q) in
        (ap (λ (x : SegmentBook). x.current.server) e ∙ p, ap (λ (x : SegmentBook). x.current.deadline.tick) e ∙ q)
    go (yes p) (no q) = another (stays_server b.current i d p ∙ ne_eqb _ _ q)
    go (no p) q = another (stays_other b.current i d p)

-- a tick that goes on with a stretch has its server and its deadline
pub stays_same : (c : Current) (i : ℕ) (d : Moment) → stays c i d ≡ true → (c.server ≡ i) × (c.deadline ≡ d)
unfolding stays
stays_same c i d e = (
  eqb-true c.server i (and_left (eqb c.server i) (eqb c.deadline.tick d.tick) e),
  ap moment (eqb-true c.deadline.tick d.tick (and_right (eqb c.server i) (eqb c.deadline.tick d.tick) e)),
)

-- What a stretch that may end at t has, so that no number is too large.
pub record MayEnd (t : ℕ) (c : Current) : Type 0 where
  pub from : c.start.tick ≤ t
  pub counted : c.count < last_tick

-- the stretch began by t, and no more segments have ended than a bound
pub record Bounded (most t : ℕ) (b : SegmentBook) : Type 0 where
  pub from : b.current.start.tick ≤ t
  pub counted : b.current.count ≤ most

pub bounded_end : {most t : ℕ} {b : SegmentBook} → Bounded most t b → most < last_tick → MayEnd t b.current
bounded_end by few = record { from = by.from; counted = omega (arith, by.counted) }

-- a tick ends at most one segment
pub after_most : (c : Current) → count_after c ≤ c.count + 1
unfolding count_after
after_most c = go (ltb c.server most_servers)
  where
    go : (l : Bool) → cond l (c.count + 1) c.count ≤ c.count + 1
    go true = omega arith
    go false = omega arith

-- so after a tick at t the bound is one more
pub turned_bounded : {most t : ℕ} {b : SegmentBook} (i : ℕ) (d : Moment) → Bounded most t b → Bounded (most + 1) t (turned b t i d)
unfolding turned
turned_bounded {most} {t} {b} i d by = go (stays b.current i d)
  where
    begun : SegmentBook
    begun =
        segment_book (list_after b.current t b.list) (next_stretch b.current t i d)

    go : (x : Bool) → Bounded (most + 1) t (cond x b begun)
    go true = record { from = by.from; counted = omega (arith, by.counted) }
    go false = record { from = omega arith; counted = omega (arith, after_most b.current, by.counted) }
