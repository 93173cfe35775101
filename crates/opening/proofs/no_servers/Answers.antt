-- `opening::no_servers` meets its promise: 64 times the vacant server is the list of places of a table with no server.
use Rattle.counting.specs.Places.{places}
use Rattle.dispatcher.specs.Start.{at_start}
use Rattle.opening.proofs.no_servers.Goals as goal

pub returns : goal.returns
unfolding at_start places
returns c = rw c.vacant.ensures
