-- How the records grow, arrival by arrival, and that 64 bits hold them.
use Prim.Native.Nat.{ℕ, zero, suc, ◌+◌, ◌≤◌, ◌<◌, min}
use borrow.Author.Tests.{eq-eqb, ne_eqb, lt-ltb, le-ltb}
use lib.Dec.{eqb, ltb, leb}
use lib.ListN.{length, get_or, replicate, set, length-append}
use mathlib.Core.Bool.{Bool, true, false, cond, ◌||◌, true≢false, false≢true}
use mathlib.Core.List.{List, [], ◌∷◌}
use mathlib.Core.Path.{◌≡◌, refl, sym, ◌∙◌, ap, ap₂}
use native.Mathlib.Decide.{ℕ_discrete}
use native.Mathlib.Nat.{le_of_suc-le-suc, not-suc-le-zero}
use native.Mathlib.Omega.{arith}
use Rattle.arrival.specs.declared.Arrival.{Arrival}
use Rattle.clock.specs.Clock.{moment, until}
use Rattle.clock.specs.declared.Moment.{Moment}
use Rattle.counting.proofs.CountLaws.{count_hit, count_miss, count_le}
use Rattle.counting.proofs.PlacesLaws.{get_d_places, places_same, places_replicate, set_places}
use Rattle.counting.specs.Count.{count}
use Rattle.counting.specs.Totals.{longest}
use Rattle.finish.specs.Finish.{Finish, is_open, finished_at, is_job}
use Rattle.sizes.specs.Sizes.{most_servers, open_job}
use Rattle.summary.proofs.SummaryLaws.{response_more, responses_other, responses_open, responses_at, few_upto, total_upto}
use Rattle.summary.specs.Summary.{blank, response_of, response_in, responses_of}
use Rattle.summary.specs.declared.Response.{Response}
use Rattle.summary.specs.declared.Summary.{Summary}
use Rattle.workfile.specs.Work.{Work}
use Rattle.records.specs.Records.{finish_in}
use Rattle.records.specs.Working.Job.{with_job, Roomy, counted, over_jobs, record_up_to, records_up_to, finish_by, is_open_at}

-- a place of a list is read as it is, whatever stands for what is behind the end
pub place_read : (l : List ℕ) (k d e : ℕ) → k < length l → get_or l k d ≡ get_or l k e
place_read [] k d e b = absurd (not-suc-le-zero b)
place_read (x ∷ l) zero d e b = refl
place_read (x ∷ l) (suc k) d e b = place_read l k d e (le_of_suc-le-suc b)

-- no number of a list is more than that of an open job, whatever stands for what is behind the end, where no place has more
still_narrow : (l : List ℕ) → ((j : ℕ) → get_or l j 0 ≤ open_job) → (j : ℕ) → get_or l j open_job ≤ open_job
still_narrow [] h j = omega arith
still_narrow (x ∷ l) h zero = h 0
still_narrow (x ∷ l) h (suc j) = still_narrow l (λ i. h (suc i)) j

-- A number that is no finish of a job leaves it open, and any other tells its finish.
pub finish_by_open : (came : Moment) (n : ℕ) → is_open_at came n ≡ true → finish_by came n ≡ is_open
finish_by_open came n e = go (leb n came.tick) (eqb n open_job) e
  where
    go : (a b : Bool) → (a || b) ≡ true → cond a is_open (cond b is_open (finished_at (moment n))) ≡ is_open
    go true b q = refl
    go false true q = refl
    go false false q = absurd (false≢true q)

pub finish_by_at : (came : Moment) (n : ℕ) → is_open_at came n ≡ false → finish_by came n ≡ finished_at (moment n)
finish_by_at came n e = go (leb n came.tick) (eqb n open_job) e
  where
    go : (a b : Bool) → (a || b) ≡ false → cond a is_open (cond b is_open (finished_at (moment n))) ≡ finished_at (moment n)
    go true b q = absurd (true≢false q)
    go false true q = absurd (true≢false q)
    go false false q = refl

-- Of a work and a list of finishes.
module _ (w : Work) (list : List ℕ) where
  -- a server of the table, and one behind it
  pub record_in : (k i : ℕ) → i < w.table.count → record_up_to w list k i ≡ over_jobs (count k (is_job w i)) (responses_of w (finish_in w list) i k)
  unfolding record_up_to
  record_in k i l = rw (lt-ltb i w.table.count l)

  pub record_behind : (k i : ℕ) → w.table.count ≤ i → record_up_to w list k i ≡ blank
  unfolding record_up_to
  record_behind k i l = rw (le-ltb i w.table.count l)

  -- no arrival tells nothing
  pub records_none : replicate most_servers blank ≡ records_up_to w list 0
  unfolding records_up_to record_up_to count responses_of response_in
  records_none = places_replicate most_servers blank ∙ places_same most_servers (λ i. blank) (record_up_to w list 0) (λ i b. go (ltb i w.table.count))
    where
      go : (t : Bool) → blank ≡ cond t blank blank
      go true = refl
      go false = refl

  -- One arrival more
  module _ (k : ℕ) where
    -- tells nothing of other servers,
    other_stays : (i : ℕ) → ((w.arrival k).server ≡ i → ⊥) → record_up_to w list k i ≡ record_up_to w list (suc k) i
    unfolding record_up_to
    other_stays i other =
        ap (λ (s : Summary). cond (ltb i w.table.count) s blank)
        (ap₂ over_jobs (sym (count_miss k (is_job w i) (ne_eqb (w.arrival k).server i other)))
        (sym (responses_other w (finish_in w list) i k other)))

    -- nothing of one behind the table,
    behind_stays : (i : ℕ) → w.table.count ≤ i → record_up_to w list k i ≡ record_up_to w list (suc k) i
    behind_stays i l = record_behind k i l ∙ sym (record_behind (suc k) i l)

    -- and of its own that it has arrived, and finished where the list says so
    own_grows : (w.arrival k).server < w.table.count
        → with_job (record_up_to w list k (w.arrival k).server) (w.arrival k).moment (finish_in w list k)
        ≡ record_up_to w list (suc k) (w.arrival k).server
    unfolding with_job
    own_grows l = rw (record_in k i l, record_in (suc k) i l) (go (finish_in w list k) refl)
      where
        i : ℕ
        i = (w.arrival k).server

        before : List ℕ
        before = responses_of w (finish_in w list) i k

        hit : count k (is_job w i) + 1 ≡ count (suc k) (is_job w i)
        hit = sym (count_hit k (is_job w i) (eq-eqb i i refl))

        go : (x : Finish) → finish_in w list k ≡ x
            → with_job (over_jobs (count k (is_job w i)) before) (w.arrival k).moment x
            ≡ over_jobs (count (suc k) (is_job w i)) (responses_of w (finish_in w list) i (suc k))
        go is_open e = ap₂ over_jobs hit (sym (responses_open w (finish_in w list) i k refl e))
        go (finished_at t) e =
            let lasted = (until (w.arrival k).moment t).ticks in
            ap₂ (λ (n : ℕ) (r : Response). counted (count k (is_job w i) + 1) n 0 0 r) (sym (length-append before (lasted ∷ []))) (sym (response_more before lasted))
            ∙ ap₂ over_jobs hit (sym (responses_at w (finish_in w list) i k refl t e))

    -- Of the records before it, and the arrival as it was read: `servers` of the 64 places hold a server.
    module _ {records : List Summary} (before : records ≡ records_up_to w list k) {a : Arrival} (read : a ≡ w.arrival k) {servers : ℕ}
        (as_many : servers ≡ min w.table.count most_servers) where
      pub records_stay : servers ≤ a.server → records ≡ records_up_to w list (suc k)
      unfolding records_up_to
      records_stay no_place =
          before ∙ places_same most_servers (record_up_to w list k) (record_up_to w list (suc k)) (λ i b. go i b (ℕ_discrete (w.arrival k).server i))
        where
          go : (i : ℕ) → i < most_servers → Dec ((w.arrival k).server ≡ i) → record_up_to w list k i ≡ record_up_to w list (suc k) i
          go i b (yes own) = behind_stays i (omega (arith, ap (λ (x : Arrival). x.server) read))
          go i b (no other) = other_stays i other

      pub records_more : a.server < servers
          → set records a.server (with_job (get_or records a.server blank) a.moment (finish_by a.moment (get_or list k open_job)))
          ≡ records_up_to w list (suc k)
      unfolding records_up_to
      records_more place =
          let i = (w.arrival k).server in
          let known : i < servers = rw read at place in
          rw (before, read)
          (ap (set (records_up_to w list k) i)
          (ap (λ (s : Summary). with_job s (w.arrival k).moment (finish_in w list k))
          (get_d_places most_servers (record_up_to w list k) i blank (omega arith))
          ∙ own_grows (omega arith))
          ∙ set_places most_servers (record_up_to w list k) (record_up_to w list (suc k)) i (omega arith) (λ j q. other_stays j (λ e. q (sym e))))

  -- Where the list's numbers have 32 bits, there is room for one job more behind fewer than 4,294,967,295.
  module _ (narrow : (j : ℕ) → get_or list j 0 ≤ open_job) where
    -- no response is longer than the moment of the finish
    response_narrow : (k : ℕ) → longest (response_of w k (finish_in w list k)) ≤ open_job
    unfolding longest
    response_narrow k = go (leb (get_or list k open_job) (w.arrival k).moment.tick) (eqb (get_or list k open_job) open_job) (still_narrow list narrow k)
      where
        go : (a b : Bool) → get_or list k open_job ≤ open_job
            → longest (response_of w k (cond a is_open (cond b is_open (finished_at (moment (get_or list k open_job)))))) ≤ open_job
        go true b h = omega arith
        go false true h = omega arith
        go false false h = omega arith

    pub records_roomy : (k i : ℕ) → k < open_job → i < min w.table.count most_servers
        → Roomy (get_or (records_up_to w list k) i blank) (get_or list k open_job)
    unfolding records_up_to
    records_roomy k i few place =
        rw (get_d_places most_servers (record_up_to w list k) i blank (omega arith), record_in k i (omega arith))
        (record {
          arrived = omega (arith, count_le k (is_job w i));
          finished = omega (arith, few_upto w (finish_in w list) i k);
          total = omega (arith, still_narrow list narrow k, total_upto w (finish_in w list) i open_job k (λ j b. response_narrow j));
        })
