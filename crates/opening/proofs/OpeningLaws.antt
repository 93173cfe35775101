-- Opening case by case, and that it lands within the ranges of the moves.
use Prim.Native.Nat.{ℕ, ◌+◌, ◌*◌, ◌/◌, ◌%◌, ◌≤◌}
use borrow.Author.Tests.{eqb-true, ltb-false, not-false}
use lib.Dec.{ltb}
use lib.ListN.{length, get_or-eq_default}
use mathlib.Core.Bool.{true, false}
use mathlib.Core.List.{List}
use mathlib.Core.Path.{◌≡◌, refl, sym, ◌∙◌, ap, ap₂}
use native.Mathlib.Nat.{div-add-mod, not-suc-le-zero}
use native.Mathlib.Omega.{arith}
use Rattle.booking.proofs.AdmissionLaws.{Admitted, admitted}
use Rattle.booking.specs.Admission.{admission}
use Rattle.booking.specs.Share.{booked}
use Rattle.clock.specs.Clock.{ticks}
use Rattle.clock.specs.declared.Length.{Length}
use Rattle.counting.proofs.TestLaws.{none_of_four}
use Rattle.dispatcher.proofs.StartLaws.{admitted_within, start_within}
use Rattle.dispatcher.specs.Moves.{Answered, reply_says}
use Rattle.dispatcher.specs.Start.{at_start}
use Rattle.dispatcher.specs.Within.{Within}
use Rattle.refusal.proofs.AcceptedLaws.{accepted_test}
use Rattle.refusal.specs.Refusals.{Said, refused, gave, accepted, on_paper}
use Rattle.std.specs.Prelude.{Ok}
use Rattle.sizes.specs.Sizes.{most_frame, most_servers}
use Rattle.opening.specs.Opening.{listed, out_of_range, table_judged, no_servers, opening}
use Rattle.dispatcher.specs.declared.Reply.{Reply}

pub judged_out_of_range : (l : List ℕ) (H : Length) → out_of_range (length l) H ≡ true → table_judged l H ≡ refused 2 0
unfolding table_judged
judged_out_of_range l H e = rw e

pub judged_in_range : (l : List ℕ) (H : Length) → out_of_range (length l) H ≡ false → table_judged l H ≡ admission H (listed l)
unfolding table_judged
judged_in_range l H e = rw e

-- what a list and a frame have that are not refused by 2
pub record InRange (numbers : ℕ) (H : Length) : Type 0 where
  pub from : 1 ≤ H.ticks
  pub to : H.ticks ≤ most_frame
  pub few : numbers / 2 ≤ most_servers
  pub even : numbers % 2 ≡ 0

pub in_range : (numbers : ℕ) (H : Length) → out_of_range numbers H ≡ false → InRange numbers H
in_range numbers H e =
    let tests = none_of_four (ltb H.ticks 1) _ _ _ e in
    record {
      from = ltb-false _ _ tests.0;
      to = ltb-false _ _ tests.1;
      few = ltb-false _ _ tests.2;
      even = eqb-true _ _ (not-false _ tests.3);
    }

-- behind the table's bookings there is none
pub listed_behind : (l : List ℕ) (k : ℕ) → length l % 2 ≡ 0 → length l / 2 ≤ k → (listed l).booking k ≡ booked 0 0
listed_behind l k even behind =
    ap₂ booked (get_or-eq_default l 0 {n = 2 * k} (omega (arith, even, behind, div-add-mod (length l) 2)))
    (get_or-eq_default l 0 {n = 2 * k + 1} (omega (arith, even, behind, div-add-mod (length l) 2)))

-- what an accepted table is
accepted_parts : (l : List ℕ) (H : Length) → table_judged l H ≡ accepted
    → (out_of_range (length l) H ≡ false) × (admission H (listed l) ≡ accepted)
unfolding table_judged
accepted_parts l H e = accepted_test 2 0 (out_of_range (length l) H) (admission H (listed l)) e

pub accepted_in_range : (l : List ℕ) (H : Length) → table_judged l H ≡ accepted → InRange (length l) H
accepted_in_range l H e = in_range (length l) H (accepted_parts l H e).0

pub accepted_admitted : (l : List ℕ) (H : Length) → table_judged l H ≡ accepted → Admitted H (listed l)
accepted_admitted l H e = admitted H (listed l) (accepted_parts l H e).1

pub opening_accepted : (l : List ℕ) (H : Length) → table_judged l H ≡ accepted
    → opening l H ≡ record { answer = accepted; dispatcher = at_start H (listed l) }
unfolding opening
opening_accepted l H e = rw e

pub opening_refused : (l : List ℕ) (H : Length) (number place : ℕ) → table_judged l H ≡ refused number place
    → opening l H ≡ record { answer = refused number place; dispatcher = no_servers }
unfolding opening
opening_refused l H number place e = rw e

-- a call that answers `Ok` has judged so
pub opened_judged : (l : List ℕ) (H : Length) (r : Reply (Unit {0})) → reply_says r ≡ opening l H → r.answer ≡ Ok tt
    → table_judged l H ≡ accepted
unfolding opening
opened_judged l H r said answer = sym (ap (λ (m : Answered (Unit {0})). m.answer) said) ∙ ap on_paper answer

-- every opening, a refused one too, lands within the ranges
no_servers_within : Within no_servers
no_servers_within =
    start_within (ticks 1) (record { count = 0; booking = λ k. booked 0 0 }) (omega arith) (omega arith) (omega arith)
    (λ k h. absurd (not-suc-le-zero h))

pub opening_within : (l : List ℕ) (H : Length) → Within (opening l H).dispatcher
opening_within l H = go (table_judged l H) refl
  where
    go : (s : Said (Unit {0})) → table_judged l H ≡ s → Within (opening l H).dispatcher
    go (refused number place) e = rw (opening_refused l H number place e) no_servers_within
    go (gave u) e =
        let within = accepted_in_range l H e in
        rw (opening_accepted l H e)
        (admitted_within H (listed l) within.from within.to within.few (accepted_admitted l H e))
