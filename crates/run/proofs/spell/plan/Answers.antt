-- `run::spell::plan` meets its promise: what is planned is within its ticks, so the laws of a spell give the rest.
use Prim.Native.Nat.{ℕ, ◌+◌, ◌*◌, ◌≤◌}
use mathlib.Core.Path.{◌≡◌, sym, ◌∙◌, ap, subst, subst⁻¹}
use native.Mathlib.Omega.{arith}
use Rattle.books.proofs.Budgets.Budgets.{Further, budgets_none}
use Rattle.books.proofs.Spell.PlannedLaws.{after_able, further_few, further_budgets, last_key, gone_few, planned, spent_number, spent_once}
use Rattle.books.specs.declared.WinnerTree.{WinnerTree}
use Rattle.clock.specs.Clock.{last_tick, ticks}
use Rattle.clock.specs.declared.Length.{Length}
use Rattle.server.specs.declared.Server.{Server}
use Rattle.clock.proofs.OrderLaws.{shorter_is}
use Rattle.run.proofs.spell.plan.Goals as goal

ticks_are : {l : Length} {n : ℕ} → l ≡ ticks n → l.ticks ≡ n
ticks_are e = ap (λ (l : Length). l.ticks) e

-- where there are no budgets
none : (tree : WinnerTree) (i : ℕ) (s : Server) (spare : ℕ) {b : ℕ} → Further tree i s spare b → b ≡ 0 → Further tree i s spare 0
none tree i s spare further e = subst (Further tree i s spare) e further

pub further-budgets-requires : goal.further-budgets-requires
further-budgets-requires c =
    record {
      leaf = c.requires.leaf;
      able = after_able c.requires (ticks_are (c.min-ticks.ensures ∙ shorter_is _ _)) c.serve-after.ensures (ticks_are c.less-spare.ensures);
    }

pub key_of-requires : goal.key_of-requires
key_of-requires c =
    let a = c.args in
    subst (λ (x : Server). x.deadline.tick * 64 + a.i ≤ last_tick) (budgets_none c.serve-after.result)
    (last_key c.requires (ticks_are (c.min-ticks.ensures ∙ shorter_is _ _)) c.serve-after.ensures (ticks_are c.less-spare.ensures)
    (none a.tree.now a.i c.serve-after.result c.less-spare.result.ticks c.further-budgets.ensures c.if-budgets-eq0.true))

pub returns-then-budgets-eq0 : goal.returns-then-budgets-eq0
returns-then-budgets-eq0 c =
    let a = c.args in
    planned c.requires (ticks_are (c.min-ticks.ensures ∙ shorter_is _ _)) c.serve-after.ensures (ticks_are c.less-spare.ensures)
    (none a.tree.now a.i c.serve-after.result c.less-spare.result.ticks c.further-budgets.ensures c.if-budgets-eq0.true)
    (sym (budgets_none c.serve-after.result))
    c.key_of.ensures
    (omega arith)
    (omega (arith, c.from-spent.ensures ∙ spent_number _))

pub budgets_on-last-requires : goal.budgets_on-last-requires
budgets_on-last-requires c =
    further_budgets c.requires (ticks_are (c.min-ticks.ensures ∙ shorter_is _ _)) c.serve-after.ensures (ticks_are c.less-spare.ensures) c.further-budgets.ensures

pub key_of-requires-2 : goal.key_of-requires-2
key_of-requires-2 c =
    subst⁻¹ (λ (x : Server). x.deadline.tick * 64 + c.args.i ≤ last_tick) c.budgets_on-last.ensures
    (last_key c.requires (ticks_are (c.min-ticks.ensures ∙ shorter_is _ _)) c.serve-after.ensures (ticks_are c.less-spare.ensures) c.further-budgets.ensures)

pub overflow_mul-result : goal.overflow_mul-result
overflow_mul-result c =
    omega (
      arith,
      gone_few c.requires (ticks_are (c.min-ticks.ensures ∙ shorter_is _ _)) c.serve-after.ensures (ticks_are c.less-spare.ensures) c.further-budgets.ensures,
    )

pub overflow_add-result : goal.overflow_add-result
overflow_add-result c =
    omega (
      arith,
      gone_few c.requires (ticks_are (c.min-ticks.ensures ∙ shorter_is _ _)) c.serve-after.ensures (ticks_are c.less-spare.ensures) c.further-budgets.ensures,
    )

pub overflow_add-result-2 : goal.overflow_add-result-2
overflow_add-result-2 c =
    omega (
      arith,
      spent_once c.min-ticks.result.ticks c.args.s.remaining.ticks (c.from-spent.ensures ∙ spent_number _),
      further_few c.requires (ticks_are (c.min-ticks.ensures ∙ shorter_is _ _)) c.serve-after.ensures (ticks_are c.less-spare.ensures) c.further-budgets.ensures,
    )

pub returns : goal.returns
returns c =
    planned c.requires (ticks_are (c.min-ticks.ensures ∙ shorter_is _ _)) c.serve-after.ensures (ticks_are c.less-spare.ensures) c.further-budgets.ensures
    c.budgets_on-last.ensures
    c.key_of-2.ensures
    (omega arith)
    (omega (arith, c.from-spent.ensures ∙ spent_number _))
