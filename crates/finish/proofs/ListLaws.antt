-- What the finish list that a run leaves tells of a job.
use Prim.Native.Nat.{ℕ, ◌≤◌, ◌<◌}
use borrow.Author.Tests.{eq-eqb, ne_eqb, le-leb, lt-leb, lt-ltb}
use lib.Dec.{ltb}
use lib.ListN.{length, get_or}
use mathlib.Core.Bool.{cond}
use mathlib.Core.List.{List}
use mathlib.Core.Path.{◌≡◌, refl, ◌∙◌}
use native.Mathlib.Decide.{dec_lt}
use native.Mathlib.Omega.{arith}
use Rattle.clock.specs.Clock.{moment}
use Rattle.counting.proofs.PlacesLaws.{get_d_places}
use Rattle.history.specs.Choice.{History}
use Rattle.sizes.specs.Sizes.{clock_end, open_job}
use Rattle.finish.specs.Finish.{Finish, is_open, finished_at, first_served, served_by, finish_number, finish_of, finish_list}

-- its place k shows the finish of job k, whatever d is read where there is no place
pub list_shows_or : (d m : ℕ) (f : ℕ → Finish) (before : List ℕ) (k : ℕ) → k < m → m ≤ length before
    → get_or (finish_list m f before) k d ≡ finish_number (f k)
unfolding finish_list
list_shows_or d m f before k listed long =
    get_d_places (length before) (λ j. cond (ltb j m) (finish_number (f j)) (get_or before j 0)) k d (omega arith) ∙ rw (lt-ltb k m listed)

pub list_shows : (m : ℕ) (f : ℕ → Finish) (before : List ℕ) (k : ℕ) → k < m → m ≤ length before
    → get_or (finish_list m f before) k 0 ≡ finish_number (f k)
list_shows = list_shows_or 0

-- what a number of the list tells
pub finish_of_open : (n : ℕ) → n ≡ open_job → finish_of n ≡ is_open
finish_of_open n e = rw (eq-eqb n open_job e)

pub finish_of_at : (n : ℕ) → (n ≡ open_job → ⊥) → finish_of n ≡ finished_at (moment n)
finish_of_at n e = rw (ne_eqb n open_job e)

-- a finish up to a horizon is told by its number
pub finish_told : (h : History) (i work N : ℕ) → N < open_job → finish_of (finish_number (served_by h i work N)) ≡ served_by h i work N
unfolding served_by
finish_told h i work N few = go (dec_lt N (first_served h i work N))
  where
    go : Dec (N < first_served h i work N) → finish_of (finish_number (served_by h i work N)) ≡ served_by h i work N
    go (yes late) = rw (lt-leb (first_served h i work N) N late)
    go (no early) =
        rw (le-leb (first_served h i work N) N (omega arith)) (finish_of_at (first_served h i work N) (λ e. omega arith))

-- an open job is shown above every moment, so what is shown by a moment has finished by then
pub shown_finished : (f : Finish) (a : ℕ) → a ≤ clock_end → finish_number f ≤ a → (t : ℕ) × (f ≡ finished_at (moment t)) × (t ≤ a)
shown_finished is_open a end le = let no : ⊥ = omega arith in absurd no
shown_finished (finished_at t) a end le = (t.tick, refl, le)
