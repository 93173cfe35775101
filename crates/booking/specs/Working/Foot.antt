-- What stands at the foot of a sheet.
use Rattle.std.specs.Prelude.{◌-◌, ltb, cond, Result, Ok, Err}
use Rattle.clock.specs.Clock.{ticks}
use Rattle.clock.specs.declared.Length.{Length}
use Rattle.booking.specs.Admission.{Table, first_faulty, shares}
use Rattle.refusal.specs.declared.Refusal.{Refusal}
use Rattle.refusal.specs.declared.Refusal.TheVariants.{FaultyServer, Shares}

-- refused at the first faulty booking, or where the shares are more than the frame, or what is left of it once they are taken off
abbrev pub foot_of : Length → Table → Result Length Refusal
foot_of H t =
    cond (ltb (first_faulty H t) t.count) (Err (FaultyServer (first_faulty H t)))
    (cond (ltb H.ticks (shares H t)) (Err Shares) (Ok (ticks (H.ticks - shares H t))))
