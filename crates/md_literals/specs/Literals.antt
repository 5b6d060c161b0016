-- What tokens stand in the rows of an accepted description.
use Rattle.std.specs.Prelude.{◌≡◌, ℕ, ◌<◌, ◌==◌, false, List, length, slice_get, Some, All}
use Rattle.asm_token.specs.Tokens.{Name as NameToken, Number as NumberToken, Mark as MarkToken, IsToken}
use Rattle.md_rows.specs.declared.description.RawDescription.{RawDescription}
use Rattle.md_rows.specs.declared.row.Row.{Row}
use Rattle.md_rows.specs.declared.row.Piece.{Piece}
use Rattle.md_rows.specs.declared.row.Piece.TheVariants.{Name, Num, Byte, Hole as HolePiece}
use Rattle.md_text.specs.Rules.{is_reserved}
use Rattle.md_text.specs.Accepted.{Says}

-- a piece that is no hole is a token; no name is one of labels, directives or symbols, and no mark a colon
abbrev pub IsLiteralPiece : Piece → Type 0
IsLiteralPiece (Name bytes) = IsToken (NameToken bytes) × (is_reserved bytes ≡ false)
IsLiteralPiece (Num z) = IsToken (NumberToken z)
IsLiteralPiece (Byte b) = IsToken (MarkToken b) × ((b == 58) ≡ false)
IsLiteralPiece (HolePiece k) = Unit {0}

pub record HasLiterals (d : RawDescription) : Type 0 where
  pub registers : All (λ r. IsToken (NameToken r.name)) d.registers
  pub some : (i : ℕ) (row : Row) → slice_get d.rows i ≡ Some row → 0 < length row.text
  pub pieces : (i : ℕ) (row : Row) → slice_get d.rows i ≡ Some row → All IsLiteralPiece row.text

-- what an accepted text says is such
abbrev pub SaidHasLiterals : Type 0
SaidHasLiterals = (text : List ℕ) (d : RawDescription) → Says text d → HasLiterals d
