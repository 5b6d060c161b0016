use Rattle.std.proofs.Common.{◌≡◌, ◌++◌, ℕ, map, length, slice_get, Some}
use Rattle.md_rows.specs.declared.row.Row.{Row}
use Rattle.md_said.specs.Sound.{IsSoundRow}
use Rattle.md_check.specs.Accepted.{normalised_row}
use Rattle.md_check.specs.Checking.{reversed}
use Rattle.md_check.proofs.normal.normalised_back.Given as goal

-- the rows at the end stand turned round with their normal forms
abbrev pub invariant-loop-row : goal.invariant-loop-row
invariant-loop-row g l = record {
  turned : l.back ++ reversed (map (normalised_row g.W.Word.BITS) l.rows) ≡ reversed (map (normalised_row g.W.Word.BITS) l.fn.rows);
  sound : (i : ℕ) (row : Row) → slice_get l.rows i ≡ Some row → IsSoundRow g.W.Word.BITS row;
}

abbrev pub decreases-loop-row : goal.decreases-loop-row
decreases-loop-row g l = length l.rows
