-- `test_work_files::script::numbers` meets its promise: the next place lies within the list.
use Prim.Native.Nat.{◌≤◌}
use lib.ListN.{length}
use mathlib.Core.Path.{◌≡◌}
use Rattle.test_work_files.proofs.script.numbers.Given as goal

abbrev pub invariant-loop-byte : goal.invariant-loop-byte
invariant-loop-byte l =
    record {
      same_list : l.numbers.list.ghost_name ≡ l.initial.numbers.list.ghost_name;
      within : l.numbers.next ≤ length l.numbers.list.now;
    }
