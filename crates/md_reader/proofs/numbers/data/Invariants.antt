use Rattle.std.proofs.Common.{◌≡◌, drop}
use Rattle.md_text.specs.Declarations.{data_in}
use Rattle.md_forms.specs.Seen.{declarations_of}
use Rattle.md_reader.specs.Ranges.{AreInRange}
use Rattle.md_reader.proofs.numbers.data.Given as goal

abbrev pub invariant-loop-declaration : goal.invariant-loop-declaration
invariant-loop-declaration l =
    AreInRange (declarations_of (drop l.declaration-index l.all))
    × (data_in (declarations_of (drop l.declaration-index l.all)) ≡ data_in (declarations_of l.all))
