use Rattle.std.proofs.Common.{◌≡◌, drop}
use Rattle.md_text.specs.Declarations.{stack_in}
use Rattle.md_forms.specs.Seen.{declarations_of}
use Rattle.md_reader.specs.Ranges.{AreInRange}
use Rattle.md_reader.proofs.numbers.stack.Given as goal

abbrev pub invariant-loop-declaration : goal.invariant-loop-declaration
invariant-loop-declaration l =
    AreInRange (declarations_of (drop l.declaration-index l.all))
    × (stack_in (declarations_of (drop l.declaration-index l.all)) ≡ stack_in (declarations_of l.all))
