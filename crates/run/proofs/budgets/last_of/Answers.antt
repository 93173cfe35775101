-- `run::budgets::last_of` meets its promise: one budget more is within the work and the time.
use Prim.Native.Nat.{ℕ, ◌+◌, ◌*◌}
use mathlib.Core.Path.{◌∙◌, ap, ap₂}
use native.Mathlib.Omega.{arith}
use Rattle.books.proofs.Budgets.Budgets.{budgets_on}
use Rattle.clock.proofs.ClockLaws.{up_to_last_whole}
use Rattle.clock.specs.Clock.{later, moment, up_to_last}
use Rattle.clock.specs.declared.Length.{Length}
use Rattle.clock.specs.declared.Moment.{Moment}
use Rattle.server.specs.declared.Server.{Server}
use Rattle.run.proofs.budgets.last_of.Goals as goal

pub less-requires : goal.less-requires
unfolding budgets_on
less-requires c = omega (arith, ap (λ (s : Server). s.waiting.ticks) c.budgets_on-last.ensures, c.requires.works)

pub returns : goal.returns
unfolding budgets_on
returns c =
    let a = c.args in
    let last = c.budgets_on-last.ensures in
    ap₂
    (λ (start deadline : Moment). record {
      start = start;
      server = a.i;
      deadline = deadline;
      waits = c.less.result;
      count = a.ended;
    })
    (c.later.ensures
    ∙ ap (λ (l : Length). up_to_last (later a.t l)) c.times.ensures
    ∙ up_to_last_whole (moment (a.t.tick + a.n * a.s.budget.ticks)) (omega (arith, c.requires.time)))
    (ap (λ (s : Server). s.deadline) last)
    ∙ ap
    (λ (l : Length). record {
      start = moment (a.t.tick + a.n * a.s.budget.ticks);
      server = a.i;
      deadline = (budgets_on a.s a.n).deadline;
      waits = l;
      count = a.ended;
    })
    (c.less.ensures ∙ ap (λ (n : ℕ). record { ticks = n }) (omega (arith, ap (λ (s : Server). s.waiting.ticks) last)))
