use Rattle.std.proofs.Common.{◌≡◌, All, length, take}
use Rattle.asm_row.specs.Line.{HasNumber}
use Rattle.asm_row.specs.Reading.{AreValues}
use Rattle.asm_row.specs.Found.{values_of}
use Rattle.asm_instances.proofs.binding.bind.Given as goal

abbrev pub invariant-loop-value : goal.invariant-loop-value
invariant-loop-value l =
    record {
      values : AreValues l.names l.list.items (values_of (take l.value-index l.values));
      numbers : All HasNumber l.list.items;
      count : length l.list.items ≡ l.value-index;
    }
