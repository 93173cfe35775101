-- A server that goes on for whole budgets, from the second on: each is a stretch of its own. Where the lent list is full their segments are
-- only counted, and the stretch after the last of them is told at once.
use Prim.Native.Nat.{ℕ, zero, suc, ◌+◌, ◌-◌, ◌*◌, ◌/◌, ◌≤◌, ◌<◌}
use borrow.Author.Tests.{ne_eqb}
use lib.Dec.{ltb}
use lib.ListN.{length}
use mathlib.Core.Bool.{Bool, true, false, cond}
use mathlib.Core.List.{List}
use mathlib.Core.Path.{◌≡◌, refl, ◌∙◌, ap, subst}
use native.Mathlib.Decide.{ℕ_discrete}
use native.Mathlib.Omega.{arith}
use Rattle.clock.specs.Clock.{moment}
use Rattle.clock.specs.declared.Moment.{Moment}
use Rattle.server.specs.declared.Server.{Server}
use Rattle.sizes.specs.Sizes.{most_servers}
use Rattle.trace.proofs.WrittenLaws.{put_short}
use Rattle.books.proofs.Book.{SegmentBook, segment_book, segments_same, with_waits}
use Rattle.books.proofs.Budgets.Budgets.{budgets_on, turned_on, on_server}
use Rattle.books.specs.declared.Current.{Current}
use Rattle.books.proofs.Stretches.Segments.{list_after, count_after, list_after_is, count_after_is}
use Rattle.books.proofs.Stretches.Turns.{stays, turned, turned_ends, turned_own, stays_server}

-- the stretch of the budget behind n others, when so many segments have ended
abbrev pub last_of : ℕ → ℕ → Server → ℕ → ℕ → Current
last_of t i s n ended =
    record {
      start = moment (t + n * s.budget.ticks);
      server = i;
      deadline = (budgets_on s n).deadline;
      waits = (budgets_on s (suc n)).waiting;
      count = ended;
    }

-- no segment is lost
turned_least : (b : SegmentBook) (t i : ℕ) (d : Moment) → b.current.count ≤ (turned b t i d).current.count
unfolding turned count_after
turned_least b t i d = go (stays b.current i d) (ltb b.current.server most_servers)
  where
    go : (x l : Bool)
        → b.current.count
        ≤ (cond x b
        (segment_book (list_after b.current t b.list)
        (record {
          start = moment t;
          server = i;
          deadline = d;
          waits = b.current.waits;
          count = cond l (b.current.count + 1) b.current.count;
        }))).current.count
    go true l = omega arith
    go false true = omega arith
    go false false = omega arith

module _ (b : SegmentBook) (t i : ℕ) (s : Server) (server : i < most_servers) (period : 1 ≤ s.period.ticks) where
  abbrev after : ℕ → SegmentBook
  after n = turned_on b t i s n

  its_own : (n : ℕ) → 1 ≤ n → (after n).current.server ≡ i
  its_own n one = on_server b t i s n (λ none. let no : ⊥ = omega arith in absurd no)

  -- the stretch of a budget ends with the next one
  ends : (n : ℕ) → 1 ≤ n → stays (after n).current i (budgets_on s n).deadline ≡ false
  unfolding turned_on budgets_on
  ends zero one = let no : ⊥ = omega arith in absurd no
  ends (suc n) one =
      stays_server (after (suc n)).current i (budgets_on s (suc n)).deadline (its_own (suc n) one)
      ∙ ne_eqb (after (suc n)).current.deadline.tick (budgets_on s (suc n)).deadline.tick
      (λ (e : (after (suc n)).current.deadline.tick ≡ (budgets_on s (suc n)).deadline.tick).
      let no : ⊥ = omega (arith, e, (turned_own (after n) (t + n * s.budget.ticks) i (budgets_on s n).deadline).1) in
      no)

  -- one budget more
  more : (n : ℕ) → 1 ≤ n
      → after (suc n)
      ≡ segment_book (list_after (after n).current (t + n * s.budget.ticks) (after n).list)
      (last_of t i s n ((after n).current.count + 1))
  unfolding turned_on
  more n one =
      ap (λ (x : SegmentBook). with_waits x (budgets_on s (suc n)).waiting)
      (turned_ends (after n) (t + n * s.budget.ticks) i (budgets_on s n).deadline (ends n one))
      ∙ ap
      (λ (k : ℕ). segment_book (list_after (after n).current (t + n * s.budget.ticks) (after n).list) (last_of t i s n k))
      (count_after_is (after n).current (omega (arith, its_own n one)))

  -- each but the first, with which the stretch before it may go on, ends a segment
  pub counted_least : (n : ℕ) → 1 ≤ n → b.current.count + n ≤ (after n).current.count + 1
  unfolding turned_on
  counted_least zero one = let no : ⊥ = omega arith in absurd no
  counted_least (suc zero) one = omega (arith, turned_least b (t + 0 * s.budget.ticks) i (budgets_on s 0).deadline)
  counted_least (suc (suc n)) one =
      omega (arith, counted_least (suc n) (omega arith), ap (λ (x : SegmentBook). x.current.count) (more (suc n) (omega arith)))

  -- From m budgets on, when the list is full.
  module _ (m : ℕ) (one : 1 ≤ m) (full : length (after m).list / 4 ≤ (after m).current.count) where
    -- how the segments stand after n budgets: those behind the m-th are counted, and none is written
    record Skips (n : ℕ) : Type 0 where
      count_is : (after n).current.count ≡ (after m).current.count + (n - m)
      list_is : (after n).list ≡ (after m).list

    skips_none : Skips m
    skips_none = record { count_is = omega arith; list_is = refl }

    skips_more : (n : ℕ) → m ≤ n → Skips n → Skips (suc n)
    skips_more n le x =
        let next = more n (omega arith) in
        let its = its_own n (omega arith) in
        record {
          count_is = omega (arith, ap (λ (y : SegmentBook). y.current.count) next, x.count_is);
          list_is =
              ap (λ (y : SegmentBook). y.list) next
              ∙ list_after_is (after n).current (omega (arith, its)) (t + n * s.budget.ticks) (after n).list
              ∙ put_short (after n).current.count _ (after n).list
              (omega (arith, full, x.count_is, ap (λ (l : List ℕ). length l / 4) x.list_is))
              ∙ x.list_is;
        }

    skips_all : (n : ℕ) → m ≤ n → Skips n
    skips_all zero le = let no : ⊥ = omega arith in absurd no
    skips_all (suc n) le = go (ℕ_discrete m (suc n)) (skips_all n)
      where
        go : Dec (m ≡ suc n) → (m ≤ n → Skips n) → Skips (suc n)
        go (yes q) so_far = subst Skips q skips_none
        go (no q) so_far = skips_more n (omega arith) (so_far (omega arith))

    pub skipped : (n : ℕ) → m ≤ n → after (suc n) ≡ segment_book (after m).list (last_of t i s n ((after m).current.count + (suc n - m)))
    skipped n le =
        let x = skips_all n le in
        segments_same (skips_all (suc n) (omega arith)).list_is
        (ap (λ (y : SegmentBook). y.current) (more n (omega arith)) ∙ ap (last_of t i s n) (omega (arith, x.count_is)))
