-- The promise of this crate allows one outcome, and asks nothing: what is said on paper tells the verdict, and the dispatcher is given whole.
use Rattle.dispatcher.proofs.MoveOnPaperLaws.{reply_told}
use Rattle.promise.specs.AsksNothing.{AsksNothing}
use Rattle.promise.specs.OneOutcome.{OneOutcome}
use Rattle.promise.proofs.OneOutcomeLaws.{both_are}
use Rattle.opening.proofs.open_table.Reads as open-table

pub open_table_one : OneOutcome open-table.Post
open_table_one l a x y at_x at_y p q =
    reply_told _ _ (both_are p.0 q.0)

pub open_table_asks : AsksNothing open-table.Pre
open_table_asks l a given = tt
