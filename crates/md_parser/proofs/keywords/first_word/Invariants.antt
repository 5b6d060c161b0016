use Rattle.std.proofs.Common.{take}
use Rattle.md_parser.proofs.Beginnings.{IsNone}
use Rattle.md_parser.proofs.keywords.first_word.Given as goal

abbrev pub invariant-loop-keyword : goal.invariant-loop-keyword
invariant-loop-keyword l = IsNone l.line (take l.keyword-index l.keyword-items)
