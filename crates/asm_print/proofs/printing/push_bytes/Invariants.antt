use Rattle.std.proofs.Common.{◌≡◌, ◌++◌, drop}
use Rattle.asm_print.specs.Layout.{byte_lines}
use Rattle.asm_print.specs.Written.{text_of}
use Rattle.asm_print.proofs.printing.push_bytes.Given as goal

abbrev pub invariant-loop-byte : goal.invariant-loop-byte
invariant-loop-byte l = l.out.items ++ text_of (byte_lines (drop l.byte-index l.bytes)) ≡ l.fn.out.items ++ text_of (byte_lines l.bytes)
