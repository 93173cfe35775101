-- `workfile::word_further` meets its promise: the last number of 64 bits lies behind the end of every file.
use mathlib.Core.Path.{◌∙◌}
use native.Mathlib.Omega.{arith}
use Rattle.numbers.proofs.WordLaws.{word_behind}
use Rattle.numbers.specs.Word.{number_at}
use Rattle.workfile.proofs.LayoutLaws.{up_to_end}
use Rattle.workfile.proofs.word_further.Goals as goal

pub returns : goal.returns
returns c = c.word_at.ensures ∙ up_to_end number_at 0 word_behind _ _ _ (omega (arith, c.saturating_add.ensures))
