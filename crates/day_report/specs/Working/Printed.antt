-- What the program leaves in its two buffers, whatever it reads and writes.
use Rattle.std.specs.Prelude.{ℕ, ◌≤◌, length, take, List, ◌⊎◌, ◌≡◌}
use Rattle.report.specs.DayReport.{day_report}

-- The text is as it was, where the input could not be read; or its first `end` bytes, which are those that are written, are the day report,
-- whole, of the first n bytes of the room, which are those that were read.
abbrev pub Printed : List ℕ → List ℕ → List ℕ → Type 0
Printed room before after =
    (after ≡ before) ⊎ ((n : ℕ) × (end : ℕ) × (n ≤ length room) × (take end after ≡ day_report (take n room)))
