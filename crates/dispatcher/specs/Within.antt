-- The one premise of the live moves: ranges of the dispatcher's numbers. Every opening hands out a dispatcher within them, a refused
-- one too, and every move keeps it there.
use Rattle.std.specs.Prelude.{ℕ, ◌≤◌, ◌<◌, length, ◌≡◌}
use Rattle.server.specs.Ranges.{Ranged}
use Rattle.server.specs.Server.{vacant}
use Rattle.sizes.specs.Sizes.{most_frame, clock_end, most_servers}
use Rattle.dispatcher.specs.declared.Dispatcher.{Dispatcher}
use Rattle.dispatcher.specs.Pick.{server_at}

pub record Within (d : Dispatcher) : Type 0 where
  -- H 1 to 604,800; the clock to 2,419,200; n to 64
  pub frame_from : 1 ≤ d.frame.ticks
  pub frame_to : d.frame.ticks ≤ most_frame
  pub clock : d.clock.tick ≤ clock_end
  pub count : d.count ≤ most_servers
  -- 64 places; each server's numbers within their ranges at this moment; every number behind the servers 0
  pub places : length d.servers ≡ most_servers
  pub servers : (i : ℕ) → i < d.count → Ranged d.clock (server_at d i)
  pub behind : (i : ℕ) → d.count ≤ i → server_at d i ≡ vacant
