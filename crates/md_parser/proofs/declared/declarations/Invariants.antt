use Rattle.std.proofs.Common.{map, take}
use Rattle.md_text.specs.Declarations.{HaveForms}
use Rattle.md_lines.specs.Kept.{line_of}
use Rattle.md_forms.specs.Seen.{declarations_of}
use Rattle.md_parser.proofs.declared.declarations.Given as goal

abbrev pub invariant-loop-line : goal.invariant-loop-line
invariant-loop-line l = HaveForms l.bits (map line_of (take l.line-index l.lines)) (declarations_of l.all)
