use Rattle.std.proofs.Common.{◌≡◌, ◌+◌, ◌≤◌, length, take}
use Rattle.asm_row.specs.Reading.{AreValues}
use Rattle.asm_row.specs.Found.{values_of}
use Rattle.asm_line.specs.Answers.{AddsAll}
use Rattle.asm_line.proofs.lines.bind.Given as goal

abbrev pub invariant-loop-value : goal.invariant-loop-value
invariant-loop-value l =
    record {
      adds : AddsAll (values_of l.values) l.initial.n l.n;
      bound : AreValues l.n l.list.items (values_of (take l.value-index l.values));
      count : length l.list.items ≡ l.value-index;
      objects : length l.n.objects ≤ length l.initial.n.objects + l.value-index;
      functions : length l.n.functions ≤ length l.initial.n.functions + l.value-index;
    }
