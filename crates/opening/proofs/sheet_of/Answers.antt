-- `opening::sheet_of` meets its promise: each line has its booking.
use Rattle.std.proofs.Common.{rules}
use mathlib.Core.Path.{◌≡◌, refl}
use Rattle.counting.proofs.PlacesLaws.{places_made}
use Rattle.opening.specs.Opening.{listed}
use Rattle.opening.proofs.sheet_of.Goals as goal

pub returns : goal.returns
returns c = rw (places_made _ (λ f. f.0.now ≡ c.args.table.now) _ _ (listed c.args.table.now).booking (λ p q i a same h call. search rules) _ refl c.from_fn.ensures.items) refl
