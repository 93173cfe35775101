-- Whole budgets in one go: a server that has just been postponed and still wins goes on with the next budget.
use Prim.Native.Nat.{ℕ, zero, suc, ◌+◌, ◌-◌, ◌*◌, ◌≤◌, ◌<◌}
use borrow.Author.Tests.{ne_eqb}
use lib.ListN.{length, set}
use mathlib.Core.Bool.{false}
use lib.Seq.{get_or-set_same, get_or-set_other, set-get_or, set-set}
use mathlib.Core.List.{List}
use mathlib.Core.Path.{◌≡◌, refl, sym, ◌∙◌, ap, ap₂, subst, subst⁻¹}
use native.Mathlib.Decide.{ℕ_discrete}
use native.Mathlib.Omega.{arith}
use Rattle.clock.specs.Clock.{later, moment, ticks}
use Rattle.dispatcher.specs.Moves.{standing}
use Rattle.dispatcher.specs.Pick.{server_at, Earliest}
use Rattle.dispatcher.specs.declared.Dispatcher.{Dispatcher}
use Rattle.moments.proofs.OneGo.{served_for, ran_for}
use Rattle.moments.proofs.OneGoLaws.{served_spent}
use Rattle.server.specs.Server.{vacant, passed_over, holding}
use Rattle.server.specs.declared.Server.{Server}
use Rattle.sizes.specs.Sizes.{clock_end, most_frame, most_servers}
use Rattle.books.proofs.Book.{SegmentBook, with_waits}
use Rattle.books.proofs.Tree.Keys.{key_of, key_works}
use Rattle.books.proofs.Stretches.Turns.{turned, turned_own}
use Rattle.books.specs.declared.WinnerTree.{WinnerTree}
use Rattle.books.proofs.Tree.Winners.{key_at}

-- a server with a full budget, n budgets later
unfoldable pub budgets_on : Server → ℕ → Server
budgets_on s n = holding s s.remaining (moment (s.deadline.tick + n * s.period.ticks)) (ticks (s.waiting.ticks - n * s.budget.ticks))

-- the dispatcher then
unfoldable pub ran_budgets : Dispatcher → ℕ → ℕ → Dispatcher
ran_budgets d i n =
    standing d (later d.clock (ticks (n * (server_at d i).budget.ticks))) (set d.servers i (budgets_on (server_at d i) n))

-- and the segments: each budget is a stretch of its own
unfoldable pub turned_on : SegmentBook → ℕ → ℕ → Server → ℕ → SegmentBook
turned_on b t i s zero = b
turned_on b t i s (suc n) =
    with_waits (turned (turned_on b t i s n) (t + n * s.budget.ticks) i (budgets_on s n).deadline) (budgets_on s (suc n)).waiting

-- so after a budget the run is in the server's stretch
pub on_server : (b : SegmentBook) (t i : ℕ) (s : Server) (n : ℕ) → (n ≡ 0 → b.current.server ≡ i) → (turned_on b t i s n).current.server ≡ i
unfolding turned_on
on_server b t i s zero own = own refl
on_server b t i s (suc n) own = (turned_own (turned_on b t i s n) (t + n * s.budget.ticks) i (budgets_on s n).deadline).0

-- what a server within its ranges has, so that no number here is too large
pub record Able (s : Server) : Type 0 where
  pub budget : 1 ≤ s.budget.ticks
  pub fits : s.budget.ticks ≤ s.period.ticks
  pub period : s.period.ticks ≤ most_frame
  pub remaining : s.remaining.ticks ≤ s.budget.ticks
  pub deadline : s.deadline.tick ≤ most_frame * (clock_end + 1)

-- it has work for n whole budgets
pub record Budgets (s : Server) (n : ℕ) : Type 0 where
  pub able : Able s
  pub few : n ≤ clock_end
  pub works : n * s.budget.ticks ≤ s.waiting.ticks

-- and time for them, from t on
pub record BudgetsFrom (t i : ℕ) (s : Server) (n : ℕ) : Type 0 where
  pub place : i < most_servers
  pub able : Able s
  pub time : t + n * s.budget.ticks ≤ clock_end
  pub works : n * s.budget.ticks ≤ s.waiting.ticks

-- How many budgets b a server may go on for, with so much to spare of its work and of the time: none of the others wins before.
pub record Further (tree : WinnerTree) (i : ℕ) (s : Server) (spare b : ℕ) : Type 0 where
  pub full : 0 < b → s.remaining.ticks ≡ s.budget.ticks
  pub fits : 0 < b → b * s.budget.ticks < spare
  pub wins : (n j : ℕ) → n < b → j < tree.leaves → (j ≡ i → ⊥) → (s.deadline.tick + n * s.period.ticks) * 64 + i < key_at tree j

-- One budget more.
pub budgets_none : (s : Server) → budgets_on s 0 ≡ s
unfolding budgets_on
budgets_none s =
    ap₂
    (λ (d w : ℕ). record {
      budget = s.budget;
      period = s.period;
      remaining = s.remaining;
      deadline = moment d;
      waiting = ticks w;
    })
    at_none
    left_none
  where
    at_none : s.deadline.tick + 0 * s.period.ticks ≡ s.deadline.tick
    at_none = omega arith

    left_none : s.waiting.ticks - 0 * s.budget.ticks ≡ s.waiting.ticks
    left_none = omega arith

pub budgets_more : (s : Server) (n : ℕ) → s.remaining.ticks ≡ s.budget.ticks
    → served_for (budgets_on s n) s.budget.ticks ≡ budgets_on s (suc n)
unfolding budgets_on
budgets_more s n full =
    served_spent (budgets_on s n) s.budget.ticks (omega arith)
    ∙ ap₂
    (λ (d w : ℕ). record { budget = s.budget; period = s.period; remaining = s.budget; deadline = moment d; waiting = ticks w })
    at_more
    left_more
    ∙ ap
    (λ (c : ℕ). record {
      budget = s.budget;
      period = s.period;
      remaining = ticks c;
      deadline = moment (s.deadline.tick + suc n * s.period.ticks);
      waiting = ticks (s.waiting.ticks - suc n * s.budget.ticks);
    })
    (sym full)
  where
    at_more : s.deadline.tick + n * s.period.ticks + s.period.ticks ≡ s.deadline.tick + suc n * s.period.ticks
    at_more = omega arith

    left_more : s.waiting.ticks - n * s.budget.ticks - s.budget.ticks ≡ s.waiting.ticks - suc n * s.budget.ticks
    left_more = omega arith

budgets_deadline : (s : Server) (n : ℕ) → (budgets_on s n).deadline.tick ≡ s.deadline.tick + n * s.period.ticks
unfolding budgets_on
budgets_deadline s n = refl

still_works : (s : Server) (n : ℕ) → n * s.budget.ticks < s.waiting.ticks → passed_over (budgets_on s n) ≡ false
unfolding budgets_on
still_works s n less = ne_eqb (s.waiting.ticks - n * s.budget.ticks) 0 (omega arith)

-- The dispatcher, one budget after the other.
module _ (d : Dispatcher) (i : ℕ) (here : i < length d.servers) where
  pub on_own : (n : ℕ) → server_at (ran_budgets d i n) i ≡ budgets_on (server_at d i) n
  unfolding ran_budgets
  on_own n = get_or-set_same d.servers i (budgets_on (server_at d i) n) vacant here

  pub on_other : (n j : ℕ) → (j ≡ i → ⊥) → server_at (ran_budgets d i n) j ≡ server_at d j
  unfolding ran_budgets
  on_other n j other = get_or-set_other d.servers i j (budgets_on (server_at d i) n) vacant other

  pub on_none : ran_budgets d i 0 ≡ d
  unfolding ran_budgets
  on_none =
      ap₂ (λ (t : ℕ) (l : List Server). standing d (moment t) l)
      clock_none
      (ap (set d.servers i) (budgets_none (server_at d i)) ∙ set-get_or d.servers i vacant)
    where
      clock_none : d.clock.tick + 0 * (server_at d i).budget.ticks ≡ d.clock.tick
      clock_none = omega arith

  pub on_more : (n : ℕ) → (server_at d i).remaining.ticks ≡ (server_at d i).budget.ticks
      → ran_for (ran_budgets d i n) i (server_at d i).budget.ticks ≡ ran_budgets d i (suc n)
  unfolding ran_budgets
  on_more n full =
      ap₂ (λ (t : ℕ) (l : List Server). standing d (moment t) l)
      clock_more
      (set-set d.servers i (budgets_on (server_at d i) n) (served_for (server_at (ran_budgets d i n) i) (server_at d i).budget.ticks)
      ∙ ap (λ (s : Server). set d.servers i (served_for s (server_at d i).budget.ticks)) (on_own n)
      ∙ ap (set d.servers i) (budgets_more (server_at d i) n full))
    where
      clock_more : d.clock.tick + n * (server_at d i).budget.ticks + (server_at d i).budget.ticks
          ≡ d.clock.tick + suc n * (server_at d i).budget.ticks
      clock_more = omega arith

-- it is still the one that the rules pick, while its key is less than every other
pub wins_picked : (tree : WinnerTree) (d : Dispatcher) (i : ℕ) (here : i < length d.servers) (among : i < d.count) → d.count ≤ 64
    → d.count ≤ tree.leaves
    → ((j : ℕ) → j < tree.leaves → (j ≡ i → ⊥) → key_at tree j ≡ key_of (server_at d j) j) → (n : ℕ)
    → n * (server_at d i).budget.ticks < (server_at d i).waiting.ticks
    → ((j : ℕ) → j < tree.leaves → (j ≡ i → ⊥) → ((server_at d i).deadline.tick + n * (server_at d i).period.ticks) * 64 + i < key_at tree j)
    → Earliest (ran_budgets d i n) d.count i
wins_picked tree d i here among few enough keyed n works wins =
    record {
      among = among;
      works = subst⁻¹ (λ (s : Server). passed_over s ≡ false) (on_own d i here n) (still_works (server_at d i) n works);
      least = λ j b v. least j b v (ℕ_discrete j i);
      ties = λ j b v e. ties j b v e (ℕ_discrete j i);
    }
  where
    own : (server_at (ran_budgets d i n) i).deadline.tick ≡ (server_at d i).deadline.tick + n * (server_at d i).period.ticks
    own = ap (λ (s : Server). s.deadline.tick) (on_own d i here n) ∙ budgets_deadline (server_at d i) n

    before : (j : ℕ) → j < d.count → passed_over (server_at (ran_budgets d i n) j) ≡ false → (j ≡ i → ⊥)
        → (server_at (ran_budgets d i n) i).deadline.tick * 64 + i < (server_at (ran_budgets d i n) j).deadline.tick * 64 + j
    before j b v other =
        let same = on_other d i here n j other in
        omega (
          arith,
          own,
          wins j (omega arith) other,
          keyed j (omega arith) other,
          key_works (server_at d j) j (subst (λ (s : Server). passed_over s ≡ false) same v),
          ap (λ (s : Server). s.deadline.tick) same,
        )

    least : (j : ℕ) → j < d.count → passed_over (server_at (ran_budgets d i n) j) ≡ false → Dec (j ≡ i)
        → (server_at (ran_budgets d i n) i).deadline.tick ≤ (server_at (ran_budgets d i n) j).deadline.tick
    least j b v (yes q) =
        subst⁻¹ (λ (m : ℕ). (server_at (ran_budgets d i n) i).deadline.tick ≤ (server_at (ran_budgets d i n) m).deadline.tick) q (omega arith)
    least j b v (no other) = omega (arith, before j b v other)

    ties : (j : ℕ) → j < d.count → passed_over (server_at (ran_budgets d i n) j) ≡ false
        → (server_at (ran_budgets d i n) j).deadline.tick ≡ (server_at (ran_budgets d i n) i).deadline.tick → Dec (j ≡ i) → i ≤ j
    ties j b v e (yes q) = omega arith
    ties j b v e (no other) = omega (arith, before j b v other)
