use Rattle.std.proofs.Common.{◌≡◌, drop}
use Rattle.md_text.specs.Declarations.{memory_in}
use Rattle.md_forms.specs.Seen.{declarations_of}
use Rattle.md_reader.specs.Ranges.{AreInRange}
use Rattle.md_reader.proofs.numbers.memory.Given as goal

abbrev pub invariant-loop-declaration : goal.invariant-loop-declaration
invariant-loop-declaration l =
    AreInRange (declarations_of (drop l.declaration-index l.all))
    × (memory_in (declarations_of (drop l.declaration-index l.all)) ≡ memory_in (declarations_of l.all))
