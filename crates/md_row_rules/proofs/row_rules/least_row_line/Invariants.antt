use Rattle.std.proofs.Common.{List, take}
use Rattle.md_text.specs.Expansion.{Expanded as Row}
use Rattle.md_expand.specs.Expanded.{AllExpanded}
use Rattle.md_rules.specs.Least.{IsLeast}
use Rattle.md_row_rules.specs.RowRules.{HasBrokenAmong}
use Rattle.md_row_rules.proofs.row_rules.least_row_line.Given as goal

abbrev pub invariant-loop-row : goal.invariant-loop-row
invariant-loop-row l = (rs : List Row) → AllExpanded rs l.rows → IsLeast (HasBrokenAmong l.rule (take l.row-index rs)) l.least
