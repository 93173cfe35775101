-- `test_live_moves::play::play` meets its promise: what is left of the list makes of the dispatcher what the whole makes of the first.
use Rattle.std.proofs.Common.{◌≡◌, drop}
use Rattle.dispatcher.specs.Within.{Within}
use Rattle.test_live_moves.specs.Working.Played.{made, played}
use Rattle.test_live_moves.proofs.play.play.Given as goal

abbrev pub invariant-loop-often : goal.invariant-loop-often
invariant-loop-often g l = record { left : played l.d (drop l.often-index l.list) ≡ played l.fn.start l.list; within : Within l.d }

abbrev pub invariant-loop-k : goal.invariant-loop-k
invariant-loop-k g l = record { so_far : l.d ≡ made l.initial.d l.often.of l.k; within : Within l.d }
