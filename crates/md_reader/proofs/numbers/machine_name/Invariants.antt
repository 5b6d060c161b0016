use Rattle.std.proofs.Common.{◌≡◌, drop}
use Rattle.md_text.specs.Declarations.{machine_name_in}
use Rattle.md_forms.specs.Seen.{declarations_of}
use Rattle.md_reader.proofs.numbers.machine_name.Given as goal

abbrev pub invariant-loop-declaration : goal.invariant-loop-declaration
invariant-loop-declaration l = machine_name_in (declarations_of (drop l.declaration-index l.all)) ≡ machine_name_in (declarations_of l.all)
