-- What is asked of an arrival (document 01, refusal 6).
use Rattle.std.specs.Prelude.{ℕ, leb, ltb, Bool, ◌||◌}
use Rattle.clock.specs.declared.Length.{Length}
use Rattle.sizes.specs.Sizes.{most_cost}

-- refusal 6: "an arrival names a server not below n, or a cost out of range", the range being "1 to 604,800"
abbrev pub faulty_arrival : ℕ → ℕ → Length → Bool
faulty_arrival n server cost = leb n server || ltb cost.ticks 1 || ltb most_cost cost.ticks
