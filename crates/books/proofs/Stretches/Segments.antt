-- The segments that ended before the stretch that a run is in: those that the lent list holds, and how many they are.
use Prim.Native.Nat.{ℕ, ◌+◌, ◌-◌, ◌≤◌, ◌<◌}
use borrow.Author.Tests.{lt-ltb, le-ltb}
use lib.Dec.{ltb}
use lib.ListN.{length, length-append}
use mathlib.Core.Bool.{cond}
use mathlib.Core.List.{List, [], ◌++◌, append-nil, append_assoc}
use mathlib.Core.Path.{◌≡◌, refl, sym, ◌∙◌, ap, ap₂}
use native.Mathlib.Decide.{dec_lt}
use native.Mathlib.Omega.{arith}
use Rattle.clock.specs.Clock.{ticks}
use Rattle.history.specs.Choice.{Choice, given}
use Rattle.moments.specs.Moments.{history}
use Rattle.sizes.specs.Sizes.{most_servers}
use Rattle.trace.proofs.WrittenLaws.{written_more}
use Rattle.trace.specs.Trace.{segments_of, trace}
use Rattle.trace.specs.Written.{written, put}
use Rattle.trace.specs.declared.Segment.{Segment}
use Rattle.workfile.specs.Work.{Work}
use Rattle.books.specs.declared.Current.{Current}
use Rattle.books.proofs.Book.{Run, lent_in}
use Rattle.books.proofs.Stretches.Stretches.{chosen_in, chosen_server, chosen_nobody, InStretch, stretch_trace}

-- What ends with a stretch: its segment is written and counted.
abbrev pub segment_until : Current → ℕ → Segment
segment_until c t = record { start = c.start; length = ticks (t - c.start.tick); server = c.server; deadline = c.deadline }

unfoldable pub list_after : Current → ℕ → List ℕ → List ℕ
list_after c t list = cond (ltb c.server most_servers) (put c.count (segment_until c t) list) list

unfoldable pub count_after : Current → ℕ
count_after c = cond (ltb c.server most_servers) (c.count + 1) c.count

-- a stretch of a server
module _ (c : Current) (l : c.server < most_servers) where
  pub list_after_is : (t : ℕ) (list : List ℕ) → list_after c t list ≡ put c.count (segment_until c t) list
  unfolding list_after
  list_after_is t list = rw (lt-ltb c.server most_servers l)

  pub count_after_is : count_after c ≡ c.count + 1
  unfolding count_after
  count_after_is = rw (lt-ltb c.server most_servers l)

-- and one of nobody, with which nothing ends
module _ (c : Current) (l : most_servers ≤ c.server) where
  pub list_nobody : (t : ℕ) (list : List ℕ) → list_after c t list ≡ list
  unfolding list_after
  list_nobody t list = rw (le-ltb c.server most_servers l)

  pub count_nobody : count_after c ≡ c.count
  unfolding count_after
  count_nobody = rw (le-ltb c.server most_servers l)

-- Of the segments that ended before e: those that ended since the list was lent are what it holds and what is counted.
pub record Segments (r : Run) (list : List ℕ) (count e : ℕ) : Type 0 where
  pub since : List Segment
  pub trace_is : trace (history r.work) e ≡ r.seen ++ since
  pub written_is : list ≡ written since r.list
  pub count_is : count ≡ length since

-- a list that is lent now, when none has ended since
pub segments_lent : (w : Work) (t : ℕ) (c : Current) (list finishes : List ℕ) → Segments (lent_in w t c list finishes) list 0 c.start.tick
unfolding written
segments_lent w t c list finishes =
    record {
      since = [];
      trace_is = sym (append-nil (trace (history w) c.start.tick));
      written_is = refl;
      count_is = refl;
    }

pub segments_end : {r : Run} {list : List ℕ} {t : ℕ} (c : Current) → InStretch r.work c.start.tick t (chosen_in c)
    → Segments r list c.count c.start.tick → Segments r (list_after c t list) (count_after c) t
segments_end {r} {list} {t} c s g = go (dec_lt c.server most_servers)
  where
    ended : Choice → List Segment
    ended x = segments_of x c.start.tick (t - c.start.tick)

    before : List Segment
    before = trace (history r.work) c.start.tick

    go : Dec (c.server < most_servers) → Segments r (list_after c t list) (count_after c) t
    go (yes l) =
        record {
          since = g.since ++ ended (given c.server c.deadline);
          trace_is =
              stretch_trace s
              ∙ ap (λ (x : Choice). before ++ ended x) (chosen_server c.server c.deadline l)
              ∙ ap (λ (l : List Segment). l ++ ended (given c.server c.deadline)) g.trace_is
              ∙ append_assoc r.seen g.since (ended (given c.server c.deadline));
          written_is =
              list_after_is c l t list
              ∙ ap₂ (λ (n : ℕ) (z : List ℕ). put n (segment_until c t) z) g.count_is g.written_is
              ∙ sym (written_more g.since (segment_until c t) r.list);
          count_is =
              count_after_is c l
              ∙ ap (λ (n : ℕ). n + 1) g.count_is
              ∙ sym (length-append g.since (ended (given c.server c.deadline)));
        }
    go (no l) =
        record {
          since = g.since;
          trace_is =
              stretch_trace s
              ∙ ap (λ (x : Choice). before ++ ended x) (chosen_nobody c.server c.deadline (omega arith))
              ∙ append-nil before
              ∙ g.trace_is;
          written_is = list_nobody c (omega arith) t list ∙ g.written_is;
          count_is = count_nobody c (omega arith) ∙ g.count_is;
        }
