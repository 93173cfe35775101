-- When a job finishes (document 01, "One moment of the clock"): "Jobs of one server are served in arrival order. Job k of a server
-- finishes at the first moment when the ticks served to that server equal the sum of costs of its jobs up to k. The run stops at moment
-- N; a job not finished by then is open."
use Rattle.std.specs.Prelude.{ℕ, suc, eqb, leb, ltb, length, get_or, Bool, cond, List}
use Rattle.clock.specs.Clock.{moment}
use Rattle.clock.specs.declared.Moment.{Moment}
use Rattle.counting.specs.First.{first}
use Rattle.counting.specs.Places.{places}
use Rattle.counting.specs.Sum.{sum}
use Rattle.history.specs.Choice.{History, ticks_served}
use Rattle.sizes.specs.Sizes.{open_job}
use Rattle.workfile.specs.Work.{Work}

-- whether arrival k is a job of server i
abbrev pub is_job : Work → ℕ → ℕ → Bool
is_job w i k = eqb (w.arrival k).server i

-- the cost of arrival k where it is a job of server i, and nothing where it is another's
abbrev pub cost_for : Work → ℕ → ℕ → ℕ
cost_for w i k = cond (is_job w i k) (w.arrival k).cost.ticks 0

-- "the sum of costs" of the jobs of server i among the first k arrivals
unfoldable pub work_of : Work → ℕ → ℕ → ℕ
work_of w i k = sum k (cost_for w i)

-- a job is open, or has finished at a moment
pub data Finish : Type 0 where
  is_open : Finish
  finished_at : (t : Moment) → Finish

-- "the first moment when the ticks served to that server equal" so much work; N + 1 where there is none to N
unfoldable pub first_served : History → ℕ → ℕ → ℕ → ℕ
first_served h i work N = first (suc N) (λ t. eqb (ticks_served h i t) work)

-- "The run stops at moment N; a job not finished by then is open."
unfoldable pub served_by : History → ℕ → ℕ → ℕ → Finish
served_by h i work N = cond (leb (first_served h i work N) N) (finished_at (moment (first_served h i work N))) is_open

-- the finish of job k: the work is "the sum of costs of its jobs up to k"
abbrev pub finish : Work → History → ℕ → ℕ → Finish
finish w h N k = served_by h (w.arrival k).server (work_of w (w.arrival k).server (suc k)) N

-- "holds at place k the finish moment of arrival k, or 4,294,967,295 for an open job"
abbrev pub finish_number : Finish → ℕ
finish_number is_open = open_job
finish_number (finished_at t) = t.tick

-- and the finish that such a number tells
abbrev pub finish_of : ℕ → Finish
finish_of n = cond (eqb n open_job) is_open (finished_at (moment n))

-- the lent finish list after a run with m arrivals: "Places from m on are untouched."
unfoldable pub finish_list : ℕ → (ℕ → Finish) → List ℕ → List ℕ
finish_list m f list = places (length list) (λ k. cond (ltb k m) (finish_number (f k)) (get_or list k 0))
