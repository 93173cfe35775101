-- What a run that has come to the horizon leaves.
use Prim.Native.Nat.{ℕ, ◌<◌}
use lib.ListN.{length, get_or}
use mathlib.Core.List.{List}
use mathlib.Core.Path.{◌≡◌}
use Rattle.finish.specs.Finish.{finish_list}
use Rattle.moments.specs.Moments.{postponed_by}
use Rattle.sizes.specs.Sizes.{most_servers}
use Rattle.summary.specs.Summary as summary
use Rattle.trace.specs.Written.{written}
use Rattle.workfile.specs.Work.{Work}
use Rattle.books.specs.declared.Travelled.{Travelled}

pub record AtHorizon (w : Work) (lent ends list finishes : List ℕ) (r : Travelled) : Type 0 where
  pub list_is : list ≡ written (summary.trace_of w) lent
  pub segments_is : r.segments ≡ length (summary.trace_of w)
  pub finishes_is : finishes ≡ finish_list w.arrivals (summary.finishes w) ends
  pub postponed_is : (i : ℕ) → i < most_servers → get_or r.postponed i 0 ≡ postponed_by w i w.horizon.tick
  pub interrupted_is : (i : ℕ) → i < most_servers → get_or r.interrupted i 0 ≡ summary.interrupted_of w i
