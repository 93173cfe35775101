-- `test_in_time::live::arrival` meets its promise: an arrival is a move.
use Rattle.test_in_time.proofs.LiveLaws.{live_arrived}
use Rattle.test_in_time.proofs.live.arrival.Goals as goal

pub returns : goal.returns
returns c =
    live_arrived c.requires c.arrival-a.result _ _ c.arrival-a.ensures.result_value
