-- The 64 records as a work, a finish list and the counts that were kept beside it tell them (document 01, "One moment of the clock").
use Rattle.std.specs.Prelude.{ℕ, leb, get_or, cond, List}
use Rattle.finish.specs.Finish.{Finish, is_open, finish_of}
use Rattle.sizes.specs.Sizes.{open_job}
use Rattle.summary.specs.Summary.{per_server, summary_by}
use Rattle.summary.specs.declared.Summary.{Summary}
use Rattle.workfile.specs.Work.{Work}

-- The finish of job k as the list tells it: "the finish moment of arrival k, or 4,294,967,295 for an open job". A job is open, too, for which
-- the list has no place, or a number that is no finish of it: a response is "at least 1", and "Zero is never a finish."
abbrev pub finish_in : Work → List ℕ → ℕ → Finish
finish_in w list k = cond (leb (get_or list k open_job) (w.arrival k).moment.tick) is_open (finish_of (get_or list k open_job))

-- the record of each server, with how often it was postponed and interrupted
unfoldable pub records_of : Work → List ℕ → List ℕ → List ℕ → List Summary
records_of w list postponed interrupted =
    per_server w (λ i. summary_by w (finish_in w list) (get_or postponed i 0) (get_or interrupted i 0) i)
