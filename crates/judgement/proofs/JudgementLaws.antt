-- The judgement of a file case by case, and what a header has that passes 2 and 3.
use Prim.Native.Nat.{ℕ, ◌≤◌, ◌+◌, ◌*◌}
use borrow.Author.Tests.{ltb-false}
use lib.Dec.{ltb}
use lib.ListN.{length}
use mathlib.Core.Bool.{true, false, ◌||◌}
use mathlib.Core.List.{List}
use mathlib.Core.Path.{◌≡◌}
use Rattle.booking.specs.Admission.{admission}
use Rattle.counting.proofs.TestLaws.{none_of_three}
use Rattle.refusal.specs.Refusals.{refused, accepted}
use Rattle.sizes.specs.Sizes.{clock_end, header_bytes, most_arrivals, most_frame, most_servers, arrival_bytes, server_bytes}
use Rattle.workfile.specs.Layout.{header}
use Rattle.workfile.specs.Work.{Work, work_under, work}
use Rattle.workfile.specs.declared.Header.{Header}
use Rattle.judgement.specs.Judgement.{length_out_of_range, sizes_out_of_range, layout_broken, work_judged, judged}
use Rattle.judgement.specs.Working.Arrivals.{list_judged}

-- what a header has that is not refused by 2
pub record Sized (h : Header) : Type 0 where
  pub frame_from : 1 ≤ h.frame.ticks
  pub frame_to : h.frame.ticks ≤ most_frame
  pub horizon : h.horizon.tick ≤ clock_end
  pub servers : h.servers.count ≤ most_servers
  pub arrivals : h.arrivals.count ≤ most_arrivals

pub sized : (h : Header) → sizes_out_of_range h ≡ false → Sized h
sized h e =
    let counts =
    none_of_three (ltb h.frame.ticks 1 || ltb most_frame h.frame.ticks || ltb clock_end h.horizon.tick) _ _ e in
    let times = none_of_three (ltb h.frame.ticks 1) _ _ counts.0 in
    record {
      frame_from = ltb-false _ _ times.0;
      frame_to = ltb-false _ _ times.1;
      horizon = ltb-false _ _ times.2;
      servers = ltb-false _ _ counts.1;
      arrivals = ltb-false _ _ counts.2;
    }

-- what a header has beside so many bytes that is not refused by 3
pub record Laid (h : Header) (bytes : ℕ) : Type 0 where
  pub servers_from : header_bytes ≤ h.servers.offset
  pub arrivals_from : h.servers.offset + server_bytes * h.servers.count ≤ h.arrivals.offset
  pub arrivals_to : h.arrivals.offset + arrival_bytes * h.arrivals.count ≤ bytes

pub laid : (h : Header) (bytes : ℕ) → layout_broken h bytes ≡ false → Laid h bytes
laid h bytes e =
    let tests = none_of_three (ltb h.servers.offset header_bytes) _ _ e in
    record {
      servers_from = ltb-false _ _ tests.0;
      arrivals_from = ltb-false _ _ tests.1;
      arrivals_to = ltb-false _ _ tests.2;
    }

-- 1, then 2 and 3 by the header as it was read, then the work
module _ (file : List ℕ) (places : ℕ) where
  pub judged_length : length_out_of_range (length file) ≡ true → judged file places ≡ refused 1 0
  unfolding judged
  judged_length e = rw e

  module _ {h : Header} (read : h ≡ header file) (long : length_out_of_range (length file) ≡ false) where
    pub judged_sizes : sizes_out_of_range h ≡ true → judged file places ≡ refused 2 0
    unfolding judged
    judged_sizes e = rw (long, rw read at e)

    pub judged_layout : sizes_out_of_range h ≡ false → layout_broken h (length file) ≡ true → judged file places ≡ refused 3 0
    unfolding judged
    judged_layout e f = rw (long, rw read at e, rw read at f)

    pub judged_work : sizes_out_of_range h ≡ false → layout_broken h (length file) ≡ false
        → judged file places ≡ work_judged (work_under h file) places
    unfolding judged work
    judged_work e f = rw (long, rw read at e, rw read at f, read)

-- the table, then the list
pub work_refused : (w : Work) (places n p : ℕ) → admission w.frame w.table ≡ refused n p → work_judged w places ≡ refused n p
unfolding work_judged
work_refused w places n p e = rw e

pub work_admitted : (w : Work) (places : ℕ) → admission w.frame w.table ≡ accepted → work_judged w places ≡ list_judged w places
unfolding work_judged
work_admitted w places e = rw e
