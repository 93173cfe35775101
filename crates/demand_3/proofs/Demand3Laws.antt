-- Demand 3 holds of every admitted table, from its start.
use Prim.Native.Nat.{◌≤◌}
use mathlib.Core.List.{List}
use mathlib.Core.Logic.{inl}
use mathlib.Core.Path.{ap}
use Rattle.booking.proofs.AdmissionLaws.{Admitted, admitted}
use Rattle.booking.specs.Admission.{Table}
use Rattle.clock.specs.declared.Length.{Length}
use Rattle.dispatcher.proofs.StartLaws.{start_server}
use Rattle.dispatcher.specs.Course.{Move, after}
use Rattle.dispatcher.specs.Start.{at_start}
use Rattle.moments.specs.Moments.{choice_of}
use Rattle.sizes.specs.Sizes.{most_frame, most_servers}
use Rattle.demand_3.proofs.AheadLaws.{Covered, resting_covered, after_covered, deadline_ahead, tick_in_time}
use Rattle.demand_3.proofs.BandwidthLaws.{bandwidth}
use Rattle.demand_3.specs.Demand3.{Demand3, OnAdmittedTables}
use Rattle.demand_3.proofs.StandingLaws.{start_standing}

module _ (H : Length) (t : Table) (from : 1 ≤ H.ticks) (to : H.ticks ≤ most_frame) (few : t.count ≤ most_servers)
    (sound : Admitted H t) where
  -- at the start every server is idle, and the shares cover all that they can get
  start_covered : Covered H t (at_start H t)
  start_covered =
      resting_covered from sound (start_standing H t from to few sound) (λ i known. inl (rw (start_server H t few i known)))

  covered : (moves : List Move) → Covered H t (after (at_start H t) moves)
  covered moves = after_covered from sound start_covered moves

  pub admitted_demand_3 : Demand3 (at_start H t) t
  admitted_demand_3 =
      record {
        bandwidth = λ moves i known rests b further. bandwidth sound b from (covered moves).standing i known rests further;
        deadlines_ahead = λ moves i known busy. deadline_ahead from sound (covered moves) i known busy;
        ticks_in_time = λ moves i deadline postponed e. tick_in_time from sound (covered moves) i deadline (ap choice_of e);
      }

pub demand_3 : OnAdmittedTables
demand_3 H t from to few accepts = admitted_demand_3 H t from to few (admitted H t accepts)
