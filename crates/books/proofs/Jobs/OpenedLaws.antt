-- A server that has work has some of its job left once that is opened, and the books stand as before.
use Prim.Native.Nat.{ℕ, ◌<◌}
use lib.ListN.{get_or, set}
use lib.Seq.{get_or-set_same}
use mathlib.Core.Path.{◌≡◌, subst, subst⁻¹}
use native.Mathlib.Decide.{dec_lt}
use native.Mathlib.Omega.{arith}
use Rattle.dispatcher.specs.Pick.{server_at}
use Rattle.dispatcher.specs.declared.Dispatcher.{Dispatcher}
use Rattle.judgement.proofs.FitLaws.{Fit}
use Rattle.sizes.specs.Sizes.{most_servers}
use Rattle.books.specs.declared.JobLines.{JobLines}
use Rattle.books.proofs.Book.{Run, JobBook, job_book, lines_with}
use Rattle.books.proofs.Jobs.JobBooks.{Jobs, jobs_set, jobs_left}
use Rattle.books.proofs.Jobs.Jobs.{Job, job_opens, waits_taken}
use Rattle.books.proofs.Jobs.Opened.{Opened, Serves}
use Rattle.books.proofs.Travel.Stands.{Stands}

module _ {r : Run} {t j i places : ℕ} {d : Dispatcher} {b : JobBook} (fit : Fit r.work places) (s : Stands r.work t j d)
    (x : Jobs r t j b) (here : i < most_servers) (waits : 0 < (server_at d i).waiting.ticks) where
  -- where nothing is left of it, what waits is work of the server's job
  module _ (none : get_or b.lines.left i 0 ≡ 0) where
    abbrev cost : ℕ
    cost = (r.work.arrival (get_or b.lines.job i 0)).cost.ticks

    unopened : Job r.work t j i (get_or b.lines.job i 0) 0
    unopened = subst (Job r.work t j i (get_or b.lines.job i 0)) none (x.each i here)

    opened_place : get_or b.lines.job i 0 < r.work.arrivals
    opened_place = omega (arith, waits_taken fit s.count unopened (omega (arith, s.adds i)), s.count)

    opened_books : Jobs r t j (job_book (lines_with b.lines b.lines.job (set b.lines.left i cost)) b.finishes)
    opened_books =
        jobs_left b.lines i
        (jobs_set i here x (λ n l other. x.each n l) (job_opens fit s.count unopened (omega (arith, s.adds i))) x.finishes_is)

    opened_some : 0 < get_or (set b.lines.left i cost) i 0
    opened_some =
        omega (
          arith,
          get_or-set_same b.lines.left i cost 0 (omega (arith, x.left_places)),
          (fit.sound (get_or b.lines.job i 0) opened_place).from,
        )

  pub serves : Serves r.work i b.lines
  serves = record { place = here; places = x.left_places; another = opened_place }

  -- with its job opened the server has some of it left, and the books stand as before
  pub opened_jobs : {lines : JobLines} {rest : ℕ} → Opened r.work i b.lines lines rest
      → Jobs r t j (job_book lines b.finishes) × (0 < get_or lines.left i 0)
  opened_jobs {lines} o = go (dec_lt 0 (get_or b.lines.left i 0))
    where
      Stand : JobLines → Type 0
      Stand l = Jobs r t j (job_book l b.finishes) × (0 < get_or l.left i 0)

      go : Dec (0 < get_or b.lines.left i 0) → Stand lines
      go (yes some) = subst⁻¹ Stand (o.stays some) (x, some)
      go (no l) =
          let none : get_or b.lines.left i 0 ≡ 0 = omega arith in subst⁻¹ Stand (o.opens none) (opened_books none, opened_some none)
