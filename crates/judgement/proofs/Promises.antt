-- The promise of this crate allows one outcome, and asks nothing: what is said on paper tells the verdict.
use Rattle.promise.specs.AsksNothing.{AsksNothing}
use Rattle.promise.specs.OneOutcome.{OneOutcome}
use Rattle.promise.proofs.OneOutcomeLaws.{both_are}
use Rattle.refusal.proofs.OnPaperLaws.{answer_told}
use Rattle.judgement.proofs.judge.Reads as judge

pub judge_one : OneOutcome judge.Post
judge_one l a x y at_x at_y p q = answer_told x y (both_are p q)

pub judge_asks : AsksNothing judge.Pre
judge_asks l a given = tt
