-- `run::jobs::line_up` meets its promise: each turn puts one arrival more before those that are lined up.
use Prim.Native.Nat.{ℕ, suc, ◌-◌, ◌≤◌, ◌<◌}
use lib.ListN.{get_or, set}
use mathlib.Core.List.{List}
use mathlib.Core.Path.{◌≡◌, refl, sym, ap, subst, subst⁻¹, subst₂}
use native.Mathlib.Omega.{arith}
use Rattle.arrival.specs.declared.Arrival.{Arrival}
use Rattle.books.proofs.Accepted.{Accepted, arrivals_read}
use Rattle.books.proofs.Jobs.Lined.{Lined, lined_none, lined_more}
use Rattle.sizes.specs.Sizes.{most_arrivals, most_servers}
use Rattle.workfile.specs.Work.{work}
use Rattle.run.proofs.jobs.line_up.Goals as goal

pub loop-k-init : goal.loop-k-init
loop-k-init c =
    let read = arrivals_read c.args.file.now c.header_of-h.ensures in
    record {
      lined =
          subst₂ (λ (k : ℕ) (l : List ℕ). Lined (work c.args.file.now) k l c.args.lines.now.behind) (sym read)
          (sym c.requires.unlined.job_is)
          (lined_none c.requires.unlined.places);
      left = refl;
      within = omega (arith, read);
    }

-- The arrival that was read is one of the file's, so its server has a place.
module _ (file : List ℕ) (accepted : Accepted file) (k : ℕ) (more : 0 < k) (within : k ≤ (work file).arrivals) where
  few : k - 1 < most_arrivals
  few = omega (arith, accepted.fit.arrivals)

  known : ((work file).arrival (k - 1)).server < most_servers
  known = let fit = accepted.fit in omega (arith, (fit.sound (k - 1) (omega arith)).known, fit.servers)

pub loop-k-preserved : goal.loop-k-preserved
loop-k-preserved c =
    let file = c.args.file.now in
    let l = c.loop-k in
    let more = c.loop-k-test.true in
    let within = l.invariant.within in
    let step : l.k ≡ suc (l.k - 1) = omega (arith, more) in
    record {
      lined =
          subst⁻¹
          (λ (i : ℕ). Lined (work file) (l.k - 1) (set l.lines.job i (l.k - 1)) (set l.lines.behind (l.k - 1) (get_or l.lines.job i 0)))
          (ap (λ (a : Arrival). a.server) c.arrival_of-a.ensures)
          (lined_more (subst (λ (n : ℕ). Lined (work file) n l.lines.job l.lines.behind) step l.invariant.lined)
          (few file c.requires.accepted l.k more within)
          (known file c.requires.accepted l.k more within));
      left = l.invariant.left;
      within = omega (arith, within);
    }
