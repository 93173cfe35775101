-- The job that a server serves: it is opened, and goes on until nothing is left of it.
use Prim.Native.Nat.{ℕ, ◌-◌, ◌≤◌, ◌<◌}
use lib.ListN.{length, get_or, set}
use mathlib.Core.Path.{◌≡◌}
use Rattle.sizes.specs.Sizes.{clock_end, most_arrivals, most_servers}
use Rattle.workfile.specs.Work.{Work}
use Rattle.books.specs.declared.JobLines.{JobLines}
use Rattle.books.proofs.Book.{JobBook, lines_with}

-- server i has a place, and where nothing is left of what it serves it has another job
pub record Serves (w : Work) (i : ℕ) (l : JobLines) : Type 0 where
  pub place : i < most_servers
  pub places : length l.left ≡ most_servers
  pub another : get_or l.left i 0 ≡ 0 → get_or l.job i 0 < w.arrivals

-- the one that is served stays, or else the server's job is opened, with all its cost left; `rest` is what is left then
pub record Opened (w : Work) (i : ℕ) (l l' : JobLines) (rest : ℕ) : Type 0 where
  pub stays : 0 < get_or l.left i 0 → l' ≡ l
  pub opens : get_or l.left i 0 ≡ 0 → l' ≡ lines_with l l.job (set l.left i (w.arrival (get_or l.job i 0)).cost.ticks)
  pub rest_is : rest ≡ get_or l'.left i 0

-- server i has a place, so many ticks are within its job, and 64 and 32 bits hold what is written until t
pub record MayGoOn (i ticks t : ℕ) (b : JobBook) : Type 0 where
  pub place : i < most_servers
  pub within : ticks ≤ get_or b.lines.left i 0
  pub known : get_or b.lines.job i 0 < most_arrivals
  pub listed : get_or b.lines.job i 0 < length b.finishes
  pub time : t ≤ clock_end

-- after so many ticks of it, until t: something is left, or it has finished at t and the job behind it is the server's
pub record WentOn (i ticks t : ℕ) (b b' : JobBook) : Type 0 where
  pub behind_is : b'.lines.behind ≡ b.lines.behind
  pub left_is : b'.lines.left ≡ set b.lines.left i (get_or b.lines.left i 0 - ticks)
  pub goes_on : 0 < get_or b.lines.left i 0 - ticks → (b'.lines.job ≡ b.lines.job) × (b'.finishes ≡ b.finishes)
  pub ends : get_or b.lines.left i 0 - ticks ≡ 0
      → (b'.lines.job ≡ set b.lines.job i (get_or b.lines.behind (get_or b.lines.job i 0) 0))
      × (b'.finishes ≡ set b.finishes (get_or b.lines.job i 0) t)
