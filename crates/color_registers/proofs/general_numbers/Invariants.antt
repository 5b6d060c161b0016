use Rattle.std.proofs.Common.{◌≡◌, ◌++◌, drop}
use Rattle.color_registers.specs.Registers.{general_numbers}
use Rattle.color_registers.proofs.general_numbers.Given as goal

abbrev pub invariant-loop-i : goal.invariant-loop-i
invariant-loop-i l = l.list.items ++ general_numbers (drop l.i l.registers) ≡ general_numbers l.registers
