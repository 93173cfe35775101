-- A dispatcher at its start is within the ranges of the moves.
use Prim.Native.Nat.{ℕ, ◌≤◌, ◌<◌}
use borrow.Author.Tests.{lt-ltb, le-ltb}
use lib.ListN.{get_or, get_or-eq_default}
use mathlib.Core.Path.{◌≡◌, refl, ◌∙◌}
use native.Mathlib.Decide.{dec_lt}
use native.Mathlib.Nat.{le_trans}
use native.Mathlib.Omega.{arith}
use Rattle.booking.proofs.AdmissionLaws.{Admitted}
use Rattle.booking.proofs.ShareLaws.{period_le_frame}
use Rattle.booking.specs.Admission.{Table}
use Rattle.booking.specs.Share.{booked}
use Rattle.booking.specs.Sheet.{sheet_of, table_on}
use Rattle.clock.specs.Clock.{moment}
use Rattle.clock.specs.declared.Length.{Length}
use Rattle.counting.proofs.PlacesLaws.{length_places, get_d_places, places_same}
use Rattle.counting.specs.Places.{places}
use Rattle.server.proofs.RangeLaws.{fresh_ranged}
use Rattle.server.specs.Ranges.{Ranged}
use Rattle.server.specs.Server.{vacant, fresh}
use Rattle.sizes.specs.Sizes.{most_frame, most_servers}
use Rattle.dispatcher.specs.Pick.{server_at}
use Rattle.dispatcher.specs.Start.{start_at, at_start}
use Rattle.dispatcher.specs.Within.{Within}

-- each place of it, and each of its servers, which is fresh
start_at_is : (t : Table) (k : ℕ) → k < most_servers → get_or (places most_servers (start_at t)) k vacant ≡ start_at t k
start_at_is t k h = get_d_places most_servers (start_at t) k vacant h

pub start_server : (H : Length) (t : Table) → t.count ≤ most_servers → (k : ℕ) → k < t.count → server_at (at_start H t) k ≡ fresh (t.booking k)
unfolding at_start
start_server H t few k h = start_at_is t k (omega arith) ∙ rw (lt-ltb k t.count h)

module _ (H : Length) (t : Table) (from : 1 ≤ H.ticks) (to : H.ticks ≤ most_frame) (few : t.count ≤ most_servers)
    (good : (k : ℕ) → k < t.count → Ranged (moment 0) (fresh (t.booking k))) where
  pub start_within : Within (at_start H t)
  unfolding at_start
  start_within =
      record {
        frame_from = from;
        frame_to = to;
        clock = omega arith;
        count = few;
        places = length_places most_servers (start_at t);
        servers = ranged;
        behind = λ k h. behind k h (dec_lt k most_servers);
      }
    where
      ranged : (k : ℕ) → k < t.count → Ranged (moment 0) (get_or (places most_servers (start_at t)) k vacant)
      ranged k h =
          rw (start_at_is t k (omega arith), lt-ltb _ _ h) (good k h)

      behind : (k : ℕ) → t.count ≤ k → Dec (k < most_servers) → get_or (places most_servers (start_at t)) k vacant ≡ vacant
      behind k h (yes b) = rw (start_at_is t k b, le-ltb _ _ h)
      behind k h (no b) =
          get_or-eq_default (places most_servers (start_at t)) vacant (omega (arith, length_places most_servers (start_at t)))

-- an admitted table's dispatcher starts within the ranges
pub admitted_within : (H : Length) (t : Table) → 1 ≤ H.ticks → H.ticks ≤ most_frame → t.count ≤ most_servers → Admitted H t
    → Within (at_start H t)
admitted_within H t from to few admitted =
    start_within H t from to few
    (λ k h.
    let good = admitted.sound k h in
    fresh_ranged (t.booking k) (moment 0) good.budget good.fits (le_trans (period_le_frame H (t.booking k) good from) to))

-- the sheet of a table tells all that a start asks of it: the first 64 bookings
pub start_sheet : (H : Length) (t : Table) → at_start H (table_on (sheet_of H t)) ≡ at_start H t
unfolding at_start
start_sheet H t =
    rw (places_same most_servers (start_at (table_on (sheet_of H t))) (start_at t)
    (λ k h. rw (get_d_places most_servers t.booking k (booked 0 0) h) refl)) refl
