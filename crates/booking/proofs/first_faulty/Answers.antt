-- `booking::first_faulty` meets its promise: what is found is the first that the definition's test tells.
use mathlib.Core.Bool.{true, false}
use mathlib.Core.Path.{◌≡◌}
use Prim.Native.Nat.{◌<◌}
use Rattle.std.proofs.Common.{rules, arith, tests}
use Rattle.std.proofs.lemmas.Iterator.{first_from_Range}
use Rattle.std.specs.Prelude.{SomeIff}
use Rattle.booking.specs.Admission.{first_faulty}
use Rattle.booking.specs.Share.{faulty_booking}
use Rattle.booking.specs.Sheet.{table_on}
use Rattle.booking.proofs.AdmissionLaws.{first_told}
use Rattle.booking.proofs.first_faulty.Goals as goal

pub returns : goal.returns
returns c =
    let sheet = c.args.sheet.now in
    let found : SomeIff c.find.result (first_faulty sheet.frame (table_on sheet) < sheet.count) (first_faulty sheet.frame (table_on sheet)) =
    first_told sheet.frame (table_on sheet) c.find.result
    (first_from_Range _ _ _ c.find.result
    (λ k. faulty_booking sheet.frame ((table_on sheet).booking k) ≡ true)
    (λ k. faulty_booking sheet.frame ((table_on sheet).booking k) ≡ false)
    c.find.ensures.ran (λ k q called. grind (arith, tests)) (λ k q called. (search rules, grind (arith, tests)))) in
    search (rules, found)
