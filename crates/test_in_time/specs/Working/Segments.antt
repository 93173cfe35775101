-- What this program knows of the trace list that a run has left.
use Rattle.std.specs.Prelude.{ℕ, ◌<◌, List}
use Rattle.callers.specs.Traces.{InTime}
use Rattle.trace.specs.Written.{fitting, segment_in}

-- each segment that it holds, of so many, ends no later than its deadline
abbrev pub AllInTime : ℕ → List ℕ → Type 0
AllInTime count list = (k : ℕ) → k < fitting count list → InTime (segment_in list k)
