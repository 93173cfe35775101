-- What this program knows of the dispatcher that it holds.
use Rattle.booking.specs.Admission.{Table}
use Rattle.callers.specs.Live.{Led}
use Rattle.demand_3.proofs.StandingLaws.{Standing}
use Rattle.demand_3.specs.Demand3.{Demand3}
use Rattle.dispatcher.specs.declared.Dispatcher.{Dispatcher}

-- moves have led to it from a start of which demand 3 holds, and it is within the ranges of the moves, with the bookings of its table
pub record Live (d : Dispatcher) : Type 0 where
  pub start : Dispatcher
  pub table : Table
  pub demand : Demand3 start table
  pub led : Led start d
  pub standing : Standing table d
