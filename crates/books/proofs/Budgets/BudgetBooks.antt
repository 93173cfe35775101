-- The books of a run while a server goes on for whole budgets.
use Prim.Native.Nat.{ℕ, zero, suc, ◌+◌, ◌-◌, ◌*◌, ◌≤◌, ◌<◌}
use borrow.Author.Tests.{eq-eqb}
use lib.Dec.{eqb}
use lib.ListN.{length, get_or, set}
use lib.Seq.{get_or-set_same, set-get_or, set-set}
use mathlib.Core.Bool.{Bool, cond}
use mathlib.Core.List.{List}
use mathlib.Core.Path.{◌≡◌, sym, ◌∙◌, ap, ap₂, subst₂}
use native.Mathlib.Nat.{add-zero}
use native.Mathlib.Omega.{arith}
use Rattle.dispatcher.specs.Pick.{server_at, Earliest}
use Rattle.dispatcher.specs.declared.Dispatcher.{Dispatcher}
use Rattle.judgement.proofs.FitLaws.{Fit}
use Rattle.moments.proofs.OneGo.{served_for, ran_for}
use Rattle.server.specs.declared.Server.{Server}
use Rattle.sizes.specs.Sizes.{most_servers}
use Rattle.books.proofs.Book.{Run, here, job_book, lines_with, Book, SegmentBook, turns_of, book, with_waits}
use Rattle.books.proofs.Budgets.Budgets.{budgets_on, ran_budgets, turned_on, on_server, budgets_more, on_own, on_none, on_more}
use Rattle.books.proofs.Stretches.Interruptions.{interruptions_after, none_of_itself}
use Rattle.books.proofs.Stretches.Turns.{turned}
use Rattle.books.proofs.Travel.EventBooks.{kept_ran, ran_jobs}
use Rattle.books.proofs.Travel.Kept.{Kept}
use Rattle.books.proofs.Travel.Stands.{NoneBefore}

-- a book with other counts, other segments, and other work left
abbrev pub book_with : Book → (postponed interrupted : List ℕ) → SegmentBook → List ℕ → Book
book_with b postponed interrupted segments left =
    book (turns_of b.turns.tree postponed interrupted) segments (job_book (lines_with b.jobs.lines b.jobs.lines.job left) b.jobs.finishes)

-- the book after n whole budgets of server i from t on, which interrupt nobody
abbrev pub budget_book : Book → ℕ → ℕ → Server → ℕ → Book
budget_book b t i s n =
    book_with b (set b.turns.postponed i (get_or b.turns.postponed i 0 + n)) b.turns.interrupted (turned_on b.segments t i s n)
    (set b.jobs.lines.left i (get_or b.jobs.lines.left i 0 - n * s.budget.ticks))

module _ {r : Run} {places t j : ℕ} {d : Dispatcher} {i : ℕ} {b : Book} (fit : Fit r.work places) (place : i < length d.servers)
    (server : i < most_servers) (q : ℕ) (budget : (server_at d i).budget.ticks ≡ suc q) (x : Kept r (here t j d) b)
    (own : b.segments.current.server ≡ i) where
  -- all that is kept after n budgets
  abbrev On : ℕ → Type 0
  On n = Kept r (here (t + n * (server_at d i).budget.ticks) j (ran_budgets d i n)) (budget_book b t i (server_at d i) n)

  on_start : On 0
  unfolding turned_on
  on_start =
      subst₂ (Kept r) (ap₂ (λ (u : ℕ) (e : Dispatcher). here u j e) now (sym (on_none d i place)))
      (ap₂ (λ (l m : List ℕ). book_with b l b.turns.interrupted b.segments m) (sym same_counts) (sym same_left))
      x
    where
      now : t ≡ t + 0 * (server_at d i).budget.ticks
      now = omega arith

      same_left : set b.jobs.lines.left i (get_or b.jobs.lines.left i 0 - 0 * (server_at d i).budget.ticks) ≡ b.jobs.lines.left
      same_left = ap (set b.jobs.lines.left i) (omega arith) ∙ set-get_or b.jobs.lines.left i 0

      same_counts : set b.turns.postponed i (get_or b.turns.postponed i 0 + 0) ≡ b.turns.postponed
      same_counts = ap (set b.turns.postponed i) (add-zero (get_or b.turns.postponed i 0)) ∙ set-get_or b.turns.postponed i 0

  module _ (n : ℕ) (full : (server_at d i).remaining.ticks ≡ (server_at d i).budget.ticks) (o : On n)
      (wins : Earliest (ran_budgets d i n) d.count i) (less : suc n * (server_at d i).budget.ticks < get_or b.jobs.lines.left i 0)
      (horizon : t + suc n * (server_at d i).budget.ticks ≤ r.work.horizon.tick)
      (later : NoneBefore r.work j (t + suc n * (server_at d i).budget.ticks)) where
    abbrev before : ℕ
    before = t + n * (server_at d i).budget.ticks

    abbrev was : Book
    was = budget_book b t i (server_at d i) n

    abbrev its : Server
    its = server_at (ran_budgets d i n) i

    next : before + suc q ≡ t + suc n * (server_at d i).budget.ticks
    next = omega arith

    its_left : get_or was.jobs.lines.left i 0 ≡ get_or b.jobs.lines.left i 0 - n * (server_at d i).budget.ticks
    its_left =
        get_or-set_same b.jobs.lines.left i (get_or b.jobs.lines.left i 0 - n * (server_at d i).budget.ticks) 0 (omega (arith, x.jobs.left_places))

    its_remaining : its.remaining.ticks ≡ suc q
    unfolding budgets_on
    its_remaining = ap (λ (s : Server). s.remaining.ticks) (on_own d i place n) ∙ full ∙ budget

    picked_one : Earliest (ran_budgets d i n) (ran_budgets d i n).count i
    unfolding ran_budgets
    picked_one = wins

    horizon_next : before + suc q ≤ r.work.horizon.tick
    horizon_next = omega (arith, next)

    later_next : NoneBefore r.work j (before + suc q)
    later_next a l m = omega (arith, next, later a l m)

    some : 0 < get_or was.jobs.lines.left i 0
    some = omega (arith, its_left)

    more : suc q < get_or was.jobs.lines.left i 0
    more = omega (arith, its_left)

    within : suc q ≤ get_or was.jobs.lines.left i 0
    within = omega (arith, its_left)

    spends : suc q ≤ its.remaining.ticks
    spends = omega (arith, its_remaining)

    dispatcher_next : ran_for (ran_budgets d i n) i (suc q) ≡ ran_budgets d i (suc n)
    dispatcher_next = ap (ran_for (ran_budgets d i n) i) (sym budget) ∙ on_more d i place n full

    left_next : set was.jobs.lines.left i (get_or was.jobs.lines.left i 0 - suc q)
        ≡ set b.jobs.lines.left i (get_or b.jobs.lines.left i 0 - suc n * (server_at d i).budget.ticks)
    left_next =
        set-set b.jobs.lines.left i (get_or b.jobs.lines.left i 0 - n * (server_at d i).budget.ticks) (get_or was.jobs.lines.left i 0 - suc q)
        ∙ ap (set b.jobs.lines.left i) (omega (arith, its_left))

    postponed_next : set was.turns.postponed i (get_or was.turns.postponed i 0 + cond (eqb (suc q) its.remaining.ticks) 1 0)
        ≡ set b.turns.postponed i (get_or b.turns.postponed i 0 + suc n)
    postponed_next =
        ap (λ (y : Bool). set was.turns.postponed i (get_or was.turns.postponed i 0 + cond y 1 0)) (eq-eqb _ _ (sym its_remaining))
        ∙ set-set b.turns.postponed i (get_or b.turns.postponed i 0 + n) (get_or was.turns.postponed i 0 + 1)
        ∙ ap (set b.turns.postponed i)
        (omega (
          arith,
          get_or-set_same b.turns.postponed i (get_or b.turns.postponed i 0 + n) 0 (omega (arith, x.counts.places)),
        ))

    segments_next : with_waits (turned was.segments before i its.deadline) (served_for its (suc q)).waiting
        ≡ turned_on b.segments t i (server_at d i) (suc n)
    unfolding turned_on
    segments_next =
        ap₂ (λ (s u : Server). with_waits (turned was.segments before i s.deadline) u.waiting) (on_own d i place n)
        (ap₂ served_for (on_own d i place n) (sym budget) ∙ budgets_more (server_at d i) n full)

    interruptions_next : interruptions_after was.segments.current i b.turns.interrupted ≡ b.turns.interrupted
    interruptions_next =
        none_of_itself was.segments.current i b.turns.interrupted
        (on_server b.segments t i (server_at d i) n (λ none. own))

    on_next : On (suc n)
    on_next =
        subst₂ (Kept r) (ap₂ (λ (u : ℕ) (e : Dispatcher). here u j e) next dispatcher_next)
        (ap₂ (λ (l m : List ℕ). book_with b l m
        (with_waits (turned was.segments before i its.deadline) (served_for its (suc q)).waiting)
        (set was.jobs.lines.left i (get_or was.jobs.lines.left i 0 - suc q)))
        postponed_next
        interruptions_next
        ∙ ap₂ (book_with b (set b.turns.postponed i (get_or b.turns.postponed i 0 + suc n)) b.turns.interrupted)
        segments_next
        left_next)
        (kept_ran fit o q horizon_next later_next i picked_one some within spends
        (ran_jobs fit o q horizon_next later_next i picked_one some within spends more))

  -- n budgets, while the server still wins and no arrival comes
  pub on_all : (n : ℕ) → (0 < n → (server_at d i).remaining.ticks ≡ (server_at d i).budget.ticks)
      → ((m : ℕ) → m < n → Earliest (ran_budgets d i m) d.count i) → (0 < n → n * (server_at d i).budget.ticks < get_or b.jobs.lines.left i 0)
      → t + n * (server_at d i).budget.ticks ≤ r.work.horizon.tick → NoneBefore r.work j (t + n * (server_at d i).budget.ticks) → On n
  on_all zero full wins less horizon later = on_start
  on_all (suc n) full wins less horizon later =
      on_next n (full (omega arith))
      (on_all n (λ l. full (omega arith)) (λ m l. wins m (omega arith)) (λ l. omega (arith, less (omega arith))) (omega arith)
      (λ a l m. omega (arith, later a l m)))
      (wins n (omega arith))
      (less (omega arith))
      horizon
      later
