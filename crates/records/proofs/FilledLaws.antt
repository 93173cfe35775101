-- How the counts that are kept beside the records come into them, server by server.
use Prim.Native.Nat.{ℕ, suc, ◌<◌, zero-le, min}
use borrow.Author.Tests.{lt-ltb, le-ltb}
use lib.Dec.{ltb}
use lib.ListN.{length, get_or, set}
use mathlib.Core.Bool.{cond}
use mathlib.Core.List.{List}
use mathlib.Core.Path.{◌≡◌, sym, ◌∙◌, ap}
use native.Mathlib.Decide.{dec_lt}
use native.Mathlib.Omega.{arith}
use Rattle.counting.proofs.PlacesLaws.{get_d_places, places_get_d, places_same, set_places}
use Rattle.counting.specs.Places.{places}
use Rattle.sizes.specs.Sizes.{most_servers}
use Rattle.summary.specs.Summary.{blank, arrived_of, finished_of, responses, summary_by}
use Rattle.summary.specs.declared.Summary.{Summary}
use Rattle.workfile.specs.Work.{Work}
use Rattle.records.specs.Records.{finish_in, records_of}
use Rattle.records.specs.Working.Job.{with_counts, record_up_to, records_up_to, filled}
use Rattle.records.proofs.GrowthLaws.{record_in, record_behind}

module _ (postponed interrupted : List ℕ) (records : List Summary) where
  -- none at first
  pub filled_none : length records ≡ most_servers → filled 0 postponed interrupted records ≡ records
  unfolding filled
  filled_none whole =
      places_same most_servers _ (λ i. get_or records i blank) (λ i b. rw (le-ltb i 0 zero-le))
      ∙ ap (λ (n : ℕ). places n (λ i. get_or records i blank)) (sym whole)
      ∙ places_get_d records blank

  module _ (n : ℕ) (l : n < most_servers) where
    -- the next one is still as it was
    filled_next : get_or (filled n postponed interrupted records) n blank ≡ get_or records n blank
    unfolding filled
    filled_next = get_d_places most_servers _ n blank l ∙ rw (le-ltb n n (omega arith))

    -- and then has its counts too
    filled_one : set (filled n postponed interrupted records) n (with_counts (get_or records n blank) (get_or postponed n 0) (get_or interrupted n 0))
        ≡ filled (suc n) postponed interrupted records
    unfolding filled
    filled_one =
        ap (set (filled n postponed interrupted records) n) (sym here)
        ∙ set_places most_servers (up_to n) (up_to (suc n)) n l (λ i q. go i q (dec_lt i n))
      where
        up_to : ℕ → ℕ → Summary
        up_to k i = cond (ltb i k) (with_counts (get_or records i blank) (get_or postponed i 0) (get_or interrupted i 0)) (get_or records i blank)

        here : up_to (suc n) n ≡ with_counts (get_or records n blank) (get_or postponed n 0) (get_or interrupted n 0)
        here = rw (lt-ltb n (suc n) (omega arith))

        go : (i : ℕ) → (i ≡ n → ⊥) → Dec (i < n) → up_to n i ≡ up_to (suc n) i
        go i q (yes b) = rw (lt-ltb i n b, lt-ltb i (suc n) (omega arith))
        go i q (no b) = rw (le-ltb i n (omega arith), le-ltb i (suc n) (omega arith))

    pub filled_more : {all : List Summary} → all ≡ filled n postponed interrupted records
        → set all n (with_counts (get_or all n blank) (get_or postponed n 0) (get_or interrupted n 0))
        ≡ filled (suc n) postponed interrupted records
    filled_more e = rw (e, filled_next) filled_one

-- All arrivals and all counts tell the records.
pub records_all : (w : Work) (list postponed interrupted : List ℕ)
    → filled (min w.table.count most_servers) postponed interrupted (records_up_to w list w.arrivals) ≡ records_of w list postponed interrupted
unfolding filled records_of records_up_to arrived_of finished_of responses
records_all w list postponed interrupted = places_same most_servers _ _ (λ i b. go i b (dec_lt i w.table.count))
  where
    told : ℕ → Summary
    told i = get_or (places most_servers (record_up_to w list w.arrivals)) i blank

    go : (i : ℕ) → i < most_servers → Dec (i < w.table.count)
        → cond (ltb i (min w.table.count most_servers)) (with_counts (told i) (get_or postponed i 0) (get_or interrupted i 0)) (told i)
        ≡ cond (ltb i w.table.count) (summary_by w (finish_in w list) (get_or postponed i 0) (get_or interrupted i 0) i) blank
    go i b (yes l) =
        rw (lt-ltb i w.table.count l, lt-ltb i (min w.table.count most_servers) (omega arith))
        (ap (λ (s : Summary). with_counts s (get_or postponed i 0) (get_or interrupted i 0)) (get_d_places most_servers _ i blank b ∙ record_in w list w.arrivals i l))
    go i b (no l) =
        rw (le-ltb i w.table.count (omega arith), le-ltb i (min w.table.count most_servers) (omega arith))
        (get_d_places most_servers _ i blank b ∙ record_behind w list w.arrivals i (omega arith))
