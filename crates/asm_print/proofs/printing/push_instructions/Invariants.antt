use Rattle.std.proofs.Common.{◌≡◌, ◌++◌, drop}
use Rattle.asm_print.specs.Layout.{instruction_lines}
use Rattle.asm_print.specs.Written.{text_of}
use Rattle.asm_print.proofs.printing.push_instructions.Given as goal

abbrev pub invariant-loop-line : goal.invariant-loop-line
invariant-loop-line g l =
    l.out.items ++ text_of (instruction_lines l.m l.names (drop l.line-index l.lines)) ≡ l.fn.out.items ++ text_of (instruction_lines l.m l.names l.lines)
