-- `dispatcher::at_start` meets its promise: each place has its server.
use Rattle.std.proofs.Common.{rules}
use mathlib.Core.Path.{◌≡◌, refl}
use Rattle.booking.specs.Sheet.{table_on}
use Rattle.counting.proofs.PlacesLaws.{places_made}
use Rattle.dispatcher.specs.Start.{at_start, start_at}
use Rattle.dispatcher.proofs.at_start.Goals as goal

pub returns : goal.returns
unfolding at_start
returns c =
    rw (places_made _ (λ f. f.0.now ≡ c.args.sheet) _ _ (start_at (table_on c.args.sheet)) (λ p q i a same h call. search rules) _ refl c.from_fn.ensures.items) refl
