use Rattle.std.proofs.Common.{◌≡◌, drop}
use Rattle.md_rows.specs.Instances.{register_name}
use Rattle.asm_row.proofs.registers.register_name.Given as goal

abbrev pub invariant-loop-register : goal.invariant-loop-register
invariant-loop-register l = register_name (drop l.register-index l.registers) l.number ≡ register_name l.registers l.number
