-- `test_in_time::lent::moves` meets its promise: each round goes on where the one before it has ended, so what they count adds up.
use Rattle.callers.proofs.LiveLaws.{counting_further}
use Rattle.test_in_time.proofs.lent.moves.Goals as goal

pub returns : goal.returns
returns c =
    let first_two = counting_further c.round-first.ensures.led c.round-second.ensures.led in
    record { end = c.round-third.result.dispatcher; led = counting_further first_two c.round-third.ensures.led }
