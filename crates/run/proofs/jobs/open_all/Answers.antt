-- `run::jobs::open_all` meets its promise: the first m places are filled, and the others stay.
use Prim.Native.Nat.{ℕ}
use lib.ListN.{drop, replicate}
use lib.Seq.{length-take-le}
use mathlib.Core.List.{List, ◌++◌}
use mathlib.Core.Path.{◌∙◌, ap}
use Rattle.books.proofs.Jobs.FinishList.{finishes_open}
use Rattle.sizes.specs.Sizes.{open_job}
use Rattle.run.proofs.jobs.open_all.Goals as goal

pub returns : goal.returns
returns c =
    let list = c.args.finishes.now in
    ap (λ (l : List ℕ). l ++ drop c.args.m list)
    (c.fill.ensures.after (λ y e. e) ∙ ap (λ (n : ℕ). replicate n open_job) (length-take-le c.args.m list c.requires))
    ∙ finishes_open c.args.m list c.requires
