use Rattle.std.proofs.Common.{◌≡◌, take}
use Rattle.md_text.specs.Declarations.{register_bits, registers_in}
use Rattle.md_forms.specs.Seen.{declarations_of}
use Rattle.md_expand.proofs.registers.Registers.bits_of.Given as goal

abbrev pub invariant-loop-name : goal.invariant-loop-name
invariant-loop-name l = l.bits ≡ register_bits (registers_in (declarations_of l.self.all.now)) (take l.name-index l.names)
