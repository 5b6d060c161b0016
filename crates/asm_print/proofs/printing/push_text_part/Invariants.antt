use Rattle.std.proofs.Common.{◌≡◌, ◌+◌, ◌++◌, All, drop, length, map}
use Rattle.asm_row.specs.Line.{IsNamed}
use Rattle.asm_print.specs.Layout.{AreBetween, instruction_lines, label_stop, woven}
use Rattle.asm_print.specs.Printable.{IsOf}
use Rattle.asm_print.specs.Written.{text_of}
use Rattle.asm_print.proofs.printing.push_text_part.Given as goal

abbrev pub invariant-loop-label : goal.invariant-loop-label
invariant-loop-label g l =
    record {
      appended :
          l.out.items ++ text_of (woven l.place (map (label_stop l.names) (drop l.label-index l.labels)) (instruction_lines l.m l.names l.rest))
          ≡ l.fn.out.items ++ text_of (woven 0 (map (label_stop l.names) l.labels) (instruction_lines l.m l.names l.lines));
      order : AreBetween l.place (l.place + length l.rest) (map (label_stop l.names) (drop l.label-index l.labels));
      instances : All (IsOf l.m) l.rest;
      named : All (λ i. All (IsNamed l.names) i.binding) l.rest;
    }
