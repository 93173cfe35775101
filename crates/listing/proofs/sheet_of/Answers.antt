-- `listing::sheet_of` meets its promise: each line has its booking.
use Rattle.std.proofs.Common.{rules}
use mathlib.Core.Path.{◌≡◌, refl}
use Rattle.counting.proofs.PlacesLaws.{places_made}
use Rattle.workfile.specs.Work.{work_under}
use Rattle.listing.proofs.sheet_of.Goals as goal

pub returns : goal.returns
returns c =
    let w = work_under c.args.h c.args.file.now in
    rw (places_made _ (λ f. (f.0.now ≡ c.args.file.now) × (f.1.now ≡ c.args.h)) _ _ w.table.booking (λ p q i a same h call. search rules) _ (refl, refl) c.from_fn.ensures.items) refl
