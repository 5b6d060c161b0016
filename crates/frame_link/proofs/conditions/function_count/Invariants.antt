use Rattle.std.proofs.Common.{◌≡◌, ◌+◌, ◌≤◌, length, drop}
use Rattle.asm_print.specs.Printable.{labelled}
use Rattle.frame_link.proofs.conditions.function_count.Given as goal

abbrev pub invariant-loop-label : goal.invariant-loop-label
invariant-loop-label l =
    record {
      few : l.count ≤ l.label-index;
      sum : l.count + length (labelled (drop l.label-index l.labels)) ≡ length (labelled l.labels);
    }
