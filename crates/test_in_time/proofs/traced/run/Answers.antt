-- `test_in_time::traced::run` is safe: demand 3 holds of the lists that the run of an accepted file leaves.
use Rattle.test_in_time.proofs.ListsLaws.{ran_left}
use Rattle.test_in_time.proofs.traced.run.Goals as goal

pub lines-requires : goal.lines-requires
lines-requires g c =
    let ran = c.run-ran in
    ran_left _ _ _ _ _ ran.result ran.ensures c.in-Ok.is
