use Rattle.std.proofs.Common.{◌≡◌, ℕ, ◌<◌, slice_get, Some}
use Rattle.md_rows.specs.declared.row.Piece.{Piece}
use Rattle.md_overlap.specs.Overlap.{Meet, FitsPiece}
use Rattle.md_overlap.proofs.rows.overlaps.Given as goal

-- the pieces so far meet
abbrev pub invariant-loop-i : goal.invariant-loop-i
invariant-loop-i l = (j : ℕ) (p q : Piece) → j < l.i → slice_get l.text j ≡ Some p → slice_get l.more j ≡ Some q
    → Meet (FitsPiece l.registers l.holes p) (FitsPiece l.registers l.others q)
