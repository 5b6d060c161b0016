use Rattle.std.proofs.Common.{◌≡◌, take, drop}
use Rattle.md_text.specs.Declarations.{flags_in}
use Rattle.md_forms.specs.Seen.{declarations_of}
use Rattle.md_reader.specs.Ranges.{AreInRange}
use Rattle.md_reader.proofs.names.flags.Given as goal

abbrev pub invariant-loop-declaration : goal.invariant-loop-declaration
invariant-loop-declaration l = record {
  so_far : l.flags ≡ flags_in (declarations_of (take l.declaration-index l.all));
  in_range : AreInRange (declarations_of (drop l.declaration-index l.all));
}
