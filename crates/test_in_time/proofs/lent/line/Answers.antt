-- `test_in_time::lent::line` is safe: its server has no work waiting, so by demand 3 what it gets is within its bandwidth.
use Rattle.test_in_time.proofs.LiveLaws.{live_allowed}
use Rattle.test_in_time.proofs.lent.line.Goals as goal

pub line-requires : goal.line-requires
line-requires g c =
    rw c.booking_of.ensures
    (live_allowed c.requires.live _ _ c.if-i-start.true c.if-s-eq0.true c.requires.tick_le_clock_end _ c.moves.ensures)
