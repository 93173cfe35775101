-- `run::stretches::interrupt` meets its promise: where the stretch is interrupted it is a server's, which has a place.
use Prim.Native.Nat.{ℕ, ◌<◌}
use lib.Dec.{eqb, ltb}
use mathlib.Core.Bool.{Bool, true, not, ◌&&◌}
use mathlib.Core.Path.{◌≡◌, sym, ◌∙◌}
use Rattle.books.proofs.Stretches.Interruptions.{one_more, none_more}
use Rattle.sizes.specs.Sizes.{most_servers}
use Rattle.summary.proofs.InterruptedLaws.{interrupted_by, interrupted_server}
use Rattle.run.proofs.stretches.interrupt.Goals as goal

so : {test : Bool} (server waits next : ℕ) → test ≡ (ltb server most_servers && ltb next most_servers && ltb 0 waits && not (eqb server next))
    → test ≡ true → interrupted_by server waits next ≡ true
unfolding interrupted_by
so server waits next is holds = sym is ∙ holds

place : {test : Bool} (server waits next : ℕ) → test ≡ (ltb server most_servers && ltb next most_servers && ltb 0 waits && not (eqb server next))
    → test ≡ true → server < most_servers
place server waits next is holds = interrupted_server server waits next (so server waits next is holds)

pub returns-then-interrupted_by : goal.returns-then-interrupted_by
returns-then-interrupted_by c =
    let a = c.args in
    sym (one_more a.c a.i _ (so a.c.server a.c.waits.ticks a.i c.interrupted_by.ensures c.if-interrupted_by.true))

pub returns-else-interrupted_by : goal.returns-else-interrupted_by
unfolding interrupted_by
returns-else-interrupted_by c =
    let a = c.args in
    sym (none_more a.c a.i _ (sym c.interrupted_by.ensures ∙ c.if-interrupted_by.false))
