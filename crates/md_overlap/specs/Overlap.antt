-- When two rows of a description overlap: some line of assembly has the tokens of both.
use Rattle.std.specs.Prelude.{◌≡◌, ◌⊎◌, ℕ, ◌<◌, Bool, false, ◌||◌, ◌==◌, IsTrue, List, [], ◌∷◌, length, slice_get, Option, Some, None}
use Rattle.asm_token.specs.Tokens.{Token, Name as NameToken, Number as NumberToken, Mark as MarkToken}
use Rattle.md_rows.specs.declared.description.Register.{Register}
use Rattle.md_rows.specs.declared.description.RawDescription.{RawDescription}
use Rattle.md_rows.specs.declared.row.Row.{Row}
use Rattle.md_rows.specs.declared.row.Hole.{Hole}
use Rattle.md_rows.specs.declared.row.Hole.TheVariants.{Reg as RegHole, Num as NumHole, Sym as SymHole, Label as LabelHole}
use Rattle.md_rows.specs.declared.row.Piece.{Piece}
use Rattle.md_rows.specs.declared.row.Piece.TheVariants.{Name, Num, Byte, Hole as HolePiece}
use Rattle.md_rows.specs.Fits.{is_in, within}
use Rattle.md_text.specs.Rules.{is_block_label}

-- the name of a register of a class
abbrev pub IsNamed : List Register → ℕ → List ℕ → Type 0
IsNamed [] class name = ⊥
IsNamed (r ∷ rs) class name = (IsTrue (is_in class r.number) × (r.name ≡ name)) ⊎ IsNamed rs class name

-- the name of an object or a function
abbrev pub is_symbol : List ℕ → Bool
is_symbol [] = false
is_symbol (c ∷ cs) = c == 95

abbrev pub FitsHole : List Register → Hole → Token → Type 0
FitsHole rs (RegHole class) (NameToken name) = IsNamed rs class name
FitsHole rs (NumHole low high inverted) (NumberToken z) = IsTrue (within low high z)
FitsHole rs SymHole (NameToken name) = IsTrue (is_symbol name)
FitsHole rs LabelHole (NameToken name) = IsTrue (is_symbol name || is_block_label name)
FitsHole rs _ _ = ⊥

abbrev pub FitsSome : List Register → Option Hole → Token → Type 0
FitsSome rs (Some hole) t = FitsHole rs hole t
FitsSome rs None t = ⊥

-- a token that a piece of a row's text may be
abbrev pub FitsPiece : List Register → List Hole → Piece → Token → Type 0
FitsPiece rs holes (Name bytes) t = NameToken bytes ≡ t
FitsPiece rs holes (Num z) t = NumberToken z ≡ t
FitsPiece rs holes (Byte b) t = MarkToken b ≡ t
FitsPiece rs holes (HolePiece h) t = FitsSome rs (slice_get holes h) t

-- some token is in both of two sets
pub record Meet (P Q : Token → Type 0) : Type 0 where
  pub token : Token
  pub left : P token
  pub right : Q token

-- as many tokens, and at each position some token fits both
pub record Overlap (d : RawDescription) (r s : Row) : Type 0 where
  pub same_length : length r.text ≡ length s.text
  pub each : (i : ℕ) (p q : Piece) → slice_get r.text i ≡ Some p → slice_get s.text i ≡ Some q
      → Meet (FitsPiece d.registers r.holes p) (FitsPiece d.registers s.holes q)

-- of the rows before a place, one of this line overlaps a row
pub record OverlapsBefore (d : RawDescription) (r : Row) (place line : ℕ) : Type 0 where
  pub at : ℕ
  pub before : at < place
  pub other : Row
  pub has : slice_get d.rows at ≡ Some other
  pub overlap : Overlap d r other
  pub line_is : other.line ≡ line

-- of the rows before a place, one of a line overlaps one before it; both may be of one line
pub record HasOverlapBefore (d : RawDescription) (place line earlier : ℕ) : Type 0 where
  pub at : ℕ
  pub before : at < place
  pub row : Row
  pub has : slice_get d.rows at ≡ Some row
  pub overlap : OverlapsBefore d row at earlier
  pub line_is : row.line ≡ line

-- a row of a line overlaps a row before it, of the line `earlier`
abbrev pub HasOverlap : RawDescription → ℕ → ℕ → Type 0
HasOverlap d line earlier = HasOverlapBefore d (length d.rows) line earlier
