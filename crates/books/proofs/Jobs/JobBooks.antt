-- The book of jobs at moment t, with j arrivals taken.
use Prim.Native.Nat.{ℕ, ◌≤◌, ◌<◌}
use lib.ListN.{length, get_or, set, length-set, replicate, length-replicate, get_or-replicate}
use lib.Seq.{get_or-set_same, get_or-set_other, set-get_or}
use mathlib.Core.List.{List}
use mathlib.Core.Path.{◌≡◌, sym, ◌∙◌, ap, subst, subst⁻¹, subst₂}
use native.Mathlib.Decide.{ℕ_discrete}
use native.Mathlib.Omega.{arith}
use Rattle.finish.specs.Finish.{is_open, finish, finish_list}
use Rattle.history.proofs.ChoiceLaws.{served_start}
use Rattle.judgement.proofs.FitLaws.{Fit}
use Rattle.moments.specs.Moments.{history}
use Rattle.sizes.specs.Sizes.{most_servers}
use Rattle.books.specs.declared.JobLines.{JobLines}
use Rattle.books.proofs.Book.{Run, JobBook, job_book, lines_with}
use Rattle.books.proofs.Jobs.FinishList.{finishes_same, start_open}
use Rattle.books.proofs.Jobs.Jobs.{Job, job_later, work_none}
use Rattle.books.proofs.Jobs.Lined.{Lined, Follow, lined_follow}

-- the job that each server serves, what is left of it, the job behind each, and every finish up to t
pub record Jobs (r : Run) (t j : ℕ) (b : JobBook) : Type 0 where
  pub job_places : length b.lines.job ≡ most_servers
  pub left_places : length b.lines.left ≡ most_servers
  pub each : (i : ℕ) → i < most_servers → Job r.work t j i (get_or b.lines.job i 0) (get_or b.lines.left i 0)
  pub follows : Follow r.work b.lines.behind
  pub finishes_is : b.finishes ≡ finish_list r.work.arrivals (finish r.work (history r.work) t) r.finishes

-- at the start, with the first job of each server and the finish list as it is when every job is open
pub jobs_start : {r : Run} {lines : JobLines} → Fit r.work (length r.finishes)
    → r.finishes ≡ finish_list r.work.arrivals (λ k. is_open) r.finishes → Lined r.work 0 lines.job lines.behind
    → lines.left ≡ replicate most_servers 0 → Jobs r 0 0 (job_book lines r.finishes)
jobs_start {r} {lines} fit opened lined left =
    record {
      job_places = lined.first_places;
      left_places = ap length left ∙ length-replicate {A = ℕ} most_servers 0;
      follows = lined_follow lined;
      each = λ i b.
          subst⁻¹ (Job r.work 0 0 i (get_or lines.job i 0))
          (ap (λ (l : List ℕ). get_or l i 0) left ∙ get_or-replicate most_servers i 0 0 b)
          record {
            own = (lined.firsts i b).own;
            between = λ e. served_start (history r.work) i ∙ sym (work_none r.work i) ∙ sym (lined.firsts i b).none;
            taken = λ l. let no : ⊥ = omega arith in absurd no;
            begun = λ l. let no : ⊥ = omega arith in absurd no;
            rest = λ l. let no : ⊥ = omega arith in absurd no;
          };
      finishes_is =
          opened
          ∙ finishes_same r.work.arrivals r.finishes (λ k. is_open) (finish r.work (history r.work) 0)
          (λ k b. sym (start_open fit k b));
    }

-- arrivals change none of it
pub jobs_later : {r : Run} {t j k : ℕ} {b : JobBook} → j ≤ k → Jobs r t j b → Jobs r t k b
jobs_later le x =
    record {
      job_places = x.job_places;
      left_places = x.left_places;
      each = λ i l. job_later le (x.each i l);
      follows = x.follows;
      finishes_is = x.finishes_is;
    }

-- At another moment u, with another job of server i and so much left of it; those of the others wait, or stand as they are.
pub jobs_set : {r : Run} {t u j : ℕ} {b : JobBook} (i : ℕ) {job left : ℕ} {finishes : List ℕ} → i < most_servers → Jobs r t j b
    → ((n : ℕ) → n < most_servers → (n ≡ i → ⊥) → Job r.work u j n (get_or b.lines.job n 0) (get_or b.lines.left n 0))
    → Job r.work u j i job left
    → finishes ≡ finish_list r.work.arrivals (finish r.work (history r.work) u) r.finishes
    → Jobs r u j (job_book (lines_with b.lines (set b.lines.job i job) (set b.lines.left i left)) finishes)
jobs_set {r} {t} {u} {j} {b} i {job} {left} here x others own finishes_is =
    record {
      job_places = simp length-set x.job_places;
      left_places = simp length-set x.left_places;
      each = λ n l. each n l (ℕ_discrete n i);
      follows = x.follows;
      finishes_is = finishes_is;
    }
  where
    each : (n : ℕ) → n < most_servers → Dec (n ≡ i) → Job r.work u j n (get_or (set b.lines.job i job) n 0) (get_or (set b.lines.left i left) n 0)
    each n l (yes q) =
        subst⁻¹ (λ (n : ℕ). Job r.work u j n (get_or (set b.lines.job i job) n 0) (get_or (set b.lines.left i left) n 0)) q
        (subst₂ (Job r.work u j i) (sym (get_or-set_same b.lines.job i job 0 (omega (arith, x.job_places))))
        (sym (get_or-set_same b.lines.left i left 0 (omega (arith, x.left_places))))
        own)
    each n l (no other) =
        subst₂ (Job r.work u j n) (sym (get_or-set_other b.lines.job i n job 0 other)) (sym (get_or-set_other b.lines.left i n left 0 other))
        (others n l other)

-- the same job
pub jobs_left : {r : Run} {u j : ℕ} (lines : JobLines) (i : ℕ) {left finishes : List ℕ}
    → Jobs r u j (job_book (lines_with lines (set lines.job i (get_or lines.job i 0)) left) finishes)
    → Jobs r u j (job_book (lines_with lines lines.job left) finishes)
jobs_left {r} {u} {j} lines i {left} {finishes} =
    subst (λ (l : List ℕ). Jobs r u j (job_book (lines_with lines l left) finishes)) (set-get_or lines.job i 0)
