-- `test_in_time::lists::booking_of` meets its promise: booking i under the header is booking i of the file.
use mathlib.Core.Path.{◌∙◌}
use Rattle.books.proofs.Accepted.{booking_read}
use Rattle.test_in_time.proofs.lists.booking_of.Goals as goal

pub returns : goal.returns
returns c = c.booking_of.ensures ∙ booking_read _ c.header_of-h.ensures _
