-- The finish list of a run that has come to moment t: what the definitions give for that horizon.
use Prim.Native.Nat.{ℕ, zero, suc, ◌≤◌, ◌<◌, zero-le}
use borrow.Author.Tests.{leb-true, lt-ltb, le-ltb}
use lib.Dec.{leb, ltb}
use lib.ListN.{length, get_or, set, replicate, drop}
use mathlib.Core.Bool.{Bool, true, false, cond}
use mathlib.Core.List.{List, [], ◌∷◌, ◌++◌}
use mathlib.Core.Path.{◌≡◌, refl, sym, ◌∙◌, ap, ap₂}
use native.Mathlib.Decide.{dec_lt}
use native.Mathlib.Omega.{arith}
use Rattle.counting.proofs.PlacesLaws.{length_places, get_d_places, places_get_d, places_same, set_places}
use Rattle.counting.specs.Places.{places}
use Rattle.counting.specs.Totals.{longest}
use Rattle.finish.proofs.FinishLaws.{finish_open}
use Rattle.finish.specs.Finish.{Finish, is_open, first_served, served_by, finish, finish_number, finish_list, work_of}
use Rattle.history.proofs.ChoiceLaws.{served_start}
use Rattle.judgement.proofs.FitLaws.{Fit}
use Rattle.moments.specs.Moments.{history}
use Rattle.sizes.specs.Sizes.{open_job}
use Rattle.summary.specs.Summary.{response_of}
use Rattle.workfile.specs.Work.{Work}
use Rattle.books.proofs.Jobs.Jobs.{work_own}

-- The finish list.
module _ (m : ℕ) (list : List ℕ) where
  pub finishes_same : (f g : ℕ → Finish) → ((k : ℕ) → k < m → f k ≡ g k) → finish_list m f list ≡ finish_list m g list
  unfolding finish_list
  finishes_same f g same = places_same (length list) _ _ (λ k b. go k (dec_lt k m))
    where
      go : (k : ℕ) → Dec (k < m) → cond (ltb k m) (finish_number (f k)) (get_or list k 0) ≡ cond (ltb k m) (finish_number (g k)) (get_or list k 0)
      go k (yes l) = ap (λ (x : Finish). cond (ltb k m) (finish_number x) (get_or list k 0)) (same k l)
      go k (no l) = rw (le-ltb k m (omega arith))

  pub finishes_one : (f g : ℕ → Finish) (job : ℕ) → job < m → m ≤ length list → ((k : ℕ) → k < m → (k ≡ job → ⊥) → f k ≡ g k)
      → set (finish_list m f list) job (finish_number (g job)) ≡ finish_list m g list
  unfolding finish_list
  finishes_one f g job l fits same =
      ap (set (finish_list m f list) job) (sym here)
      ∙ set_places (length list) (λ k. cond (ltb k m) (finish_number (f k)) (get_or list k 0)) (λ k. cond (ltb k m) (finish_number (g k)) (get_or list k 0)) job
      (omega arith)
      (λ k n. go k n (dec_lt k m))
    where
      here : cond (ltb job m) (finish_number (g job)) (get_or list job 0) ≡ finish_number (g job)
      here = rw (lt-ltb job m l)

      go : (k : ℕ) → (k ≡ job → ⊥) → Dec (k < m)
          → cond (ltb k m) (finish_number (f k)) (get_or list k 0) ≡ cond (ltb k m) (finish_number (g k)) (get_or list k 0)
      go k n (yes b) = ap (λ (x : Finish). cond (ltb k m) (finish_number x) (get_or list k 0)) (same k b n)
      go k n (no b) = rw (le-ltb k m (omega arith))

  pub finishes_length : (f : ℕ → Finish) → length (finish_list m f list) ≡ length list
  unfolding finish_list
  finishes_length f = length_places (length list) _

-- written over another, it is as written at first
pub finishes_again : (m : ℕ) (f g : ℕ → Finish) (list : List ℕ) → finish_list m f (finish_list m g list) ≡ finish_list m f list
unfolding finish_list
finishes_again m f g list =
    ap (λ (n : ℕ). places n (λ k. cond (ltb k m) (finish_number (f k)) (get_or (finish_list m g list) k 0))) (finishes_length m list g)
    ∙ places_same (length list) (λ k. cond (ltb k m) (finish_number (f k)) (get_or (finish_list m g list) k 0))
    (λ k. cond (ltb k m) (finish_number (f k)) (get_or list k 0))
    (λ k b. go k b (dec_lt k m))
  where
    go : (k : ℕ) → k < length list → Dec (k < m)
        → cond (ltb k m) (finish_number (f k)) (get_or (finish_list m g list) k 0) ≡ cond (ltb k m) (finish_number (f k)) (get_or list k 0)
    go k b (yes l) = rw (lt-ltb k m l)
    go k b (no l) =
        rw (le-ltb k m (omega arith))
        (get_d_places (length list) (λ k. cond (ltb k m) (finish_number (g k)) (get_or list k 0)) k 0 b ∙ rw (le-ltb k m (omega arith)))

pub finishes_none : (list : List ℕ) → finish_list 0 (λ k. is_open) list ≡ list
unfolding finish_list
finishes_none list =
    places_same (length list) _ (λ k. get_or list k 0) (λ k b. rw (le-ltb k 0 zero-le)) ∙ places_get_d list 0

-- the number of an open job in each of the first m places
pub finishes_open : (m : ℕ) (list : List ℕ) → m ≤ length list → replicate m open_job ++ drop m list ≡ finish_list m (λ k. is_open) list
unfolding finish_list places
finishes_open zero list l = sym (finishes_none list)
finishes_open (suc m) [] l = let no : ⊥ = omega arith in absurd no
finishes_open (suc m) (x ∷ xs) l =
    ap₂ (λ (n : ℕ) (rest : List ℕ). n ∷ rest) first
    (finishes_open m xs (omega arith)
    ∙ places_same (length xs) (λ k. cond (ltb k m) open_job (get_or xs k 0)) (λ k. cond (ltb (suc k) (suc m)) open_job (get_or xs k 0))
    (λ k b. go k (dec_lt k m)))
  where
    first : open_job ≡ cond (ltb 0 (suc m)) open_job x
    first = rw (lt-ltb 0 (suc m) (omega arith))

    go : (k : ℕ) → Dec (k < m) → cond (ltb k m) open_job (get_or xs k 0) ≡ cond (ltb (suc k) (suc m)) open_job (get_or xs k 0)
    go k (yes b) = rw (lt-ltb k m b, lt-ltb (suc k) (suc m) (omega arith))
    go k (no b) = rw (le-ltb k m (omega arith), le-ltb (suc k) (suc m) (omega arith))

-- a run has nothing finished at its start
pub start_open : {w : Work} {places : ℕ} → Fit w places → (k : ℕ) → k < w.arrivals → finish w (history w) 0 k ≡ is_open
start_open {w} fit k b =
    let i = (w.arrival k).server in
    finish_open (history w) i (work_of w i (suc k)) 0 (omega (arith, served_start (history w) i, work_own w i k refl, (fit.sound k b).from))

-- the response of what has finished by t is at most t
pub response_by : (w : Work) (t k : ℕ) → longest (response_of w k (finish w (history w) t k)) ≤ t
unfolding served_by longest
response_by w t k = go (leb (first_served (history w) i (work_of w i (suc k)) t) t) refl
  where
    i : ℕ
    i = (w.arrival k).server

    go : (x : Bool) → leb (first_served (history w) i (work_of w i (suc k)) t) t ≡ x
        → longest (response_of w k (finish w (history w) t k)) ≤ t
    go true e = rw e (omega (arith, leb-true (first_served (history w) i (work_of w i (suc k)) t) t e))
    go false e = rw e (omega arith)
