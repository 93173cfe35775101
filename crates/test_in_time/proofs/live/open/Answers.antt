-- `test_in_time::live::open` is safe: the dispatcher of an accepted table is live.
use Rattle.test_in_time.proofs.LiveLaws.{live_opened}
use Rattle.test_in_time.proofs.live.open.Goals as goal

pub moves-requires : goal.moves-requires
moves-requires g c =
    let opened = c.open_table-opened in
    live_opened _ _ opened.result opened.ensures.result_value c.in-Ok.is

pub lines-requires : goal.lines-requires
lines-requires g c =
    let opened = c.open_table-opened in
    live_opened _ _ opened.result opened.ensures.result_value c.in-Ok.is
