use Rattle.std.proofs.Common.{◌≡◌, drop}
use Rattle.std.specs.Option.{unwrap_or}
use Rattle.md_covers.specs.Covers.{first_with}
use Rattle.live_machine.proofs.machine.number_with.Given as goal

abbrev pub invariant-loop-i : goal.invariant-loop-i
invariant-loop-i l = unwrap_or (first_with l.role (drop l.i l.registers)) 0 ≡ unwrap_or (first_with l.role l.registers) 0
