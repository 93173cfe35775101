-- `run::starting::start` meets its promise: the sheet of a file's table tells all that its dispatcher asks of it at the start.
use mathlib.Core.Path.{◌∙◌}
use Rattle.dispatcher.proofs.StartLaws.{start_sheet}
use Rattle.moments.specs.Moments.{at_moment}
use Rattle.workfile.specs.Work.{work}
use Rattle.run.proofs.starting.start.Goals as goal

pub returns : goal.returns
unfolding at_moment work
returns c = rw (c.at_start.ensures, c.sheet_of.ensures, c.header_of-h.ensures) (start_sheet _ _)
