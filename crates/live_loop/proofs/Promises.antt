-- Each promise of this crate allows one outcome, and asks no more than the ranges: what is said on paper tells the answer, and the dispatcher that is left is given whole.
use Rattle.dispatcher.specs.Within.{Within}
use Rattle.promise.specs.AsksNothing.{AsksOnly}
use Rattle.promise.specs.OneOutcome.{OneOutcomeLent}
use Rattle.live_loop.proofs.TwoFormsLaws.{arrival_agrees, tick_agrees}
use Rattle.live_loop.proofs.arrival.Reads as arrival
use Rattle.live_loop.proofs.tick.Reads as tick

-- one outcome agrees with another as one form of the move does with the other
pub arrival_one : OneOutcomeLent arrival.Post (λ κs e. e.0.now)
arrival_one κs a x y at_x at_y p q = arrival_agrees a.0.now a.1.0 a.1.1.0 x y at_x.0.now at_y.0.now p q

pub arrival_asks : AsksOnly (λ κs a. Within a.0.now) arrival.Pre
arrival_asks κs a within = within

pub tick_one : OneOutcomeLent tick.Post (λ κs e. e.0.now)
tick_one κs a x y at_x at_y p q = tick_agrees a.0.now x y at_x.0.now at_y.0.now p q

pub tick_asks : AsksOnly (λ κs a. Within a.0.now) tick.Pre
tick_asks κs a within = within
