use Rattle.std.proofs.Common.{◌≡◌, ◌<◌, ℕ, get_or, length}
use Rattle.md_shapes.specs.Shapes.{shape_by}
use Rattle.md_shapes.proofs.table.shapes.Given as goal

abbrev pub invariant-loop-place : goal.invariant-loop-place
invariant-loop-place l = (length l.list ≡ 137) × ((k : ℕ) → k < l.place → get_or l.list k (shape_by 0) ≡ shape_by k)
