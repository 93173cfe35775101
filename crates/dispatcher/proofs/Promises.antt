-- Each promise of this crate allows one outcome, and asks no more than the ranges: what is said on paper tells the answer, and the dispatcher is given whole.
use Rattle.promise.specs.AsksNothing.{AsksNothing, AsksOnly}
use Rattle.promise.specs.OneOutcome.{OneOutcome}
use Rattle.promise.proofs.OneOutcomeLaws.{both_are}
use Rattle.dispatcher.proofs.arrival.Reads as arrival
use Rattle.dispatcher.proofs.at_start.Reads as at-start
use Rattle.dispatcher.proofs.tick.Reads as tick
use Rattle.dispatcher.proofs.MoveOnPaperLaws.{reply_told}
use Rattle.dispatcher.specs.Within.{Within}

pub arrival_one : OneOutcome arrival.Post
arrival_one l a x y at_x at_y p q = reply_told _ _ (both_are p.0 q.0)

pub arrival_asks : AsksOnly (λ l a. Within a.0) arrival.Pre
arrival_asks l a within = within

pub tick_one : OneOutcome tick.Post
tick_one l a x y at_x at_y p q = reply_told _ _ (both_are p.0 q.0)

pub tick_asks : AsksOnly (λ l a. Within a.0) tick.Pre
tick_asks l a within = within

pub at_start_one : OneOutcome at-start.Post
at_start_one l a x y at_x at_y p q = both_are p q

pub at_start_asks : AsksNothing at-start.Pre
at_start_asks l a given = tt
