-- `booking::take_off` meets its promise: after so many turns what is left and as many shares are the frame.
use Prim.Native.Nat.{◌-◌, ◌≤◌, ◌<◌}
use mathlib.Core.Path.{◌≡◌, ◌∙◌, ap}
use native.Mathlib.Omega.{arith}
use Rattle.booking.specs.Share.{faulty_booking}
use Rattle.booking.specs.Sheet.{table_on}
use Rattle.booking.proofs.AdmissionLaws.{none_faulty}
use Rattle.booking.proofs.SheetLaws.{left_first, left_next, left_over}
use Rattle.booking.proofs.take_off.Goals as goal

pub loop-at-init : goal.loop-at-init
loop-at-init c = left_first c.args.sheet.now.frame (table_on c.args.sheet.now)

pub share_of-share-requires : goal.share_of-share-requires
share_of-share-requires c =
    let sheet = c.args.sheet.now in
    ap (faulty_booking sheet.frame) c.booking_on.ensures
    ∙ none_faulty sheet.frame (table_on sheet) c.requires c.loop-at.at c.loop-at-test.true

pub returns-in_err-left : goal.returns-in_err-left
returns-in_err-left c =
    let sheet = c.args.sheet.now in
    let short : c.loop-at.left < c.share_of-share.result.ticks = grind arith in
    let foot = left_over sheet.frame (table_on sheet) c.requires c.loop-at-test.true c.booking_on.ensures c.share_of-share.ensures short c.loop-at.invariant in
    grind (arith, foot, c.from_residual.ensures, c.in_err-left.ensures.value)

pub loop-at-preserved : goal.loop-at-preserved
loop-at-preserved c =
    let sheet = c.args.sheet.now in
    let enough : c.share_of-share.result.ticks ≤ c.loop-at.left = grind arith in
    let rest : c.in_ok-left.left ≡ c.loop-at.left - c.share_of-share.result.ticks = grind arith in
    rw rest
    (left_next sheet.frame (table_on sheet) c.booking_on.ensures c.share_of-share.ensures enough c.loop-at.invariant)
