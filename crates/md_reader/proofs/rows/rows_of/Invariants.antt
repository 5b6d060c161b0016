use Rattle.std.proofs.Common.{◌≡◌, List, map, take}
use Rattle.md_text.specs.Expansion.{Expanded as Expansion}
use Rattle.md_text.specs.Accepted.{row_of}
use Rattle.md_expand.specs.Expanded.{AllExpanded}
use Rattle.md_reader.proofs.rows.rows_of.Given as goal

abbrev pub invariant-loop-row : goal.invariant-loop-row
invariant-loop-row l = (rs : List Expansion) → AllExpanded rs l.rows → l.made ≡ map row_of (take l.row-index rs)
