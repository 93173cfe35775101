-- `judgement::judge_arrivals` meets its promise: after k turns the first k arrivals have passed, and `before` is the moment of the last.
use Rattle.workfile.specs.Work.{work_under}
use Rattle.judgement.proofs.PassedLaws.{Passed}
use Rattle.judgement.proofs.judge_arrivals.Given as goal

abbrev pub invariant-loop-k : goal.invariant-loop-k
invariant-loop-k l = Passed (work_under l.h l.file) l.k l.before.tick
