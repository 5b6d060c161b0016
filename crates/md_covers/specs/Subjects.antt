-- A row as the subject of a search, and what covering asks of it.
use Rattle.std.specs.Prelude.{◌≡◌, ℕ, true, List, slice_get, Some}
use Rattle.rtl_word.specs.Words.{IsWordSize}
use Rattle.rtl_tree.specs.Moves.{Move}
use Rattle.md_rows.specs.declared.row.Hole.{Hole}
use Rattle.md_match.specs.Does.{IsRow}
use Rattle.md_shapes.specs.declared.patterns.Pattern.{Pattern}
use Rattle.md_shapes.specs.declared.search.Subject.{Subject}
use Rattle.md_shapes.specs.Shapes.{Frame, Open, shape_moves, has_transfer}
use Rattle.md_covers.specs.Covers.{IsRowMove, IsDoneBySome, IsOpenOf}

-- the row as the subject of a search has it, and what its assignments are
pub record IsSeen (t : Subject) : Type 0 where
  pub size : IsWordSize t.bits
  pub row : IsRow t.holes.now t.row.now
  pub kinds : (j : ℕ) (r : Move) → slice_get t.row.now j ≡ Some r → IsRowMove t.holes.now r

-- what covering asks of a row's holes and assignments
pub record CoversWith (w g : ℕ) (holes : List Hole) (row : List Move) (m : Frame) (pattern : Pattern) : Type 0 where
  pub transfer : has_transfer m pattern ≡ true
  pub each : (p : Open) → IsOpenOf w g pattern p → IsDoneBySome w g holes row (shape_moves m pattern p)
