use Rattle.std.proofs.Common.{◌≡◌, drop, bit_or}
use Rattle.md_covers.specs.Covers.{general_bits}
use Rattle.md_covers.proofs.registers.general_bits.Given as goal

abbrev pub invariant-loop-i : goal.invariant-loop-i
invariant-loop-i l = bit_or l.bits (general_bits (drop l.i l.registers)) ≡ general_bits l.registers
