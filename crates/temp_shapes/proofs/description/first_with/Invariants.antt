use Rattle.std.proofs.Common.{◌≡◌, drop}
use Rattle.md_covers.specs.Covers.{first_with}
use Rattle.temp_shapes.proofs.description.first_with.Given as goal

abbrev pub invariant-loop-i : goal.invariant-loop-i
invariant-loop-i l = first_with l.role (drop l.i l.registers) ≡ first_with l.role l.registers
