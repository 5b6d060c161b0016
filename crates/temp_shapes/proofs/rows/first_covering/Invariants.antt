use Rattle.std.proofs.Common.{◌≡◌, ◌<◌, ℕ, slice_get, Some}
use Rattle.md_rows.specs.declared.row.Row.{Row}
use Rattle.md_covers.specs.Covers.{Covers}
use Rattle.temp_shapes.proofs.rows.first_covering.Given as goal

-- no row so far covers it
abbrev pub invariant-loop-i : goal.invariant-loop-i
invariant-loop-i g l = (j : ℕ) (row : Row) → j < l.i → slice_get l.d.rows j ≡ Some row → Covers l.d row l.shape → ⊥
