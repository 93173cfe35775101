-- `test_work_files::script::numbers` meets its promise: a number that is added is added within the list.
use mathlib.Core.Path.{◌∙◌}
use Rattle.page.proofs.PageLaws.{added_within}
use Rattle.test_work_files.proofs.script.numbers.Goals as goal

pub loop-byte-preserved-in-Number-Between : goal.loop-byte-preserved-in-Number-Between
loop-byte-preserved-in-Number-Between c =
    let l = c.loop-byte in
    record {
      same_list = c.add.ensures.same_list ∙ l.invariant.same_list;
      within = added_within _ _ c.add.ensures.filled l.invariant.within;
    }
