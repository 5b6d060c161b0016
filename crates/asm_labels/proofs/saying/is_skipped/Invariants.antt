use Rattle.std.proofs.Common.{◌≡◌, drop}
use Rattle.asm_program.specs.TextLines.{is_skipped}
use Rattle.asm_labels.proofs.saying.is_skipped.Given as goal

abbrev pub invariant-loop-byte : goal.invariant-loop-byte
invariant-loop-byte l = is_skipped (drop l.byte-index l.line) ≡ is_skipped l.line
