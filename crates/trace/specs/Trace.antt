-- The trace of a history up to a horizon (document 01): "The trace is the list of segments. A segment is a longest stretch of
-- consecutive ticks given to one server under one deadline; idle ticks make none."
use Rattle.std.specs.Prelude.{ℕ, zero, suc, ◌+◌, ◌-◌, Bool, true, not, cond, List, [], ◌∷◌, ◌++◌}
use Rattle.clock.specs.Clock.{moment, ticks}
use Rattle.counting.specs.First.{first}
use Rattle.history.specs.Choice.{Choice, nobody, given, History, same}
use Rattle.trace.specs.declared.Segment.{Segment}

-- a stretch begins at 0, and wherever a tick is not given as the one before it is: to another server, under another deadline, or to none
unfoldable pub begins : History → ℕ → Bool
begins h zero = true
begins h (suc t) = not (same (h t) (h (suc t)))

-- the stretch that begins at b is a longest one: it lasts until a tick that is not given as the one at b is, or to the horizon N
unfoldable pub lasting : History → ℕ → ℕ → ℕ
lasting h N b = first (N - b) (λ k. not (same (h b) (h (b + k))))

-- k ticks from b on make one segment; "idle ticks make none"
abbrev pub segments_of : Choice → ℕ → ℕ → List Segment
segments_of nobody b k = []
segments_of (given i d) b k = record { start = moment b; length = ticks k; server = i; deadline = d } ∷ []

-- the segments that begin before t, in order
unfoldable pub begun : History → ℕ → ℕ → List Segment
begun h N zero = []
begun h N (suc t) = begun h N t ++ cond (begins h t) (segments_of (h t) t (lasting h N t)) []

-- the whole trace
abbrev pub trace : History → ℕ → List Segment
trace h N = begun h N N
