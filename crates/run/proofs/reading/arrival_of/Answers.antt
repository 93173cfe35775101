-- `run::reading::arrival_of` meets its promise: arrival k under the header is arrival k of the file.
use mathlib.Core.Path.{◌∙◌}
use Rattle.books.proofs.Accepted.{arrival_read}
use Rattle.run.proofs.reading.arrival_of.Goals as goal

pub returns : goal.returns
returns c =
    c.arrival_of.ensures ∙ arrival_read c.args.file.now c.header_of-h.ensures c.args.k
