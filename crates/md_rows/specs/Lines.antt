-- The longest line of a row.
use Rattle.std.specs.Prelude.{ℕ, ◌+◌, max, Bool, true, false, cond, ◌&&◌, List, [], ◌∷◌, length, slice_get, Option, Some, None}
use Rattle.std.specs.Fmt.{signed_decimal}
use Rattle.md_rows.specs.declared.description.Register.{Register}
use Rattle.md_rows.specs.declared.row.Hole.{Hole}
use Rattle.md_rows.specs.declared.row.Hole.TheVariants.{Reg, Num as NumberHole, Sym, Label}
use Rattle.md_rows.specs.declared.row.Piece.{Piece}
use Rattle.md_rows.specs.declared.row.Piece.TheVariants.{Name, Num, Byte, Hole as HolePiece}
use Rattle.md_rows.specs.Fits.{is_in}

-- the longest name of the registers of a class
abbrev pub longest_name : ℕ → List Register → ℕ
longest_name class [] = 0
longest_name class (r ∷ rs) = max (cond (is_in class r.number) (length r.name) 0) (longest_name class rs)

-- the most bytes that a hole prints
abbrev pub hole_bytes : List Register → Option Hole → ℕ
hole_bytes rs (Some (Reg class)) = longest_name class rs
hole_bytes rs (Some (NumberHole low high inverted)) = 11
hole_bytes rs (Some Sym) = 64
hole_bytes rs (Some Label) = 64
hole_bytes rs None = 0

abbrev pub piece_bytes : List Register → List Hole → Piece → ℕ
piece_bytes rs holes (Name bytes) = length bytes
piece_bytes rs holes (Num z) = length (signed_decimal z)
piece_bytes rs holes (Byte b) = 1
piece_bytes rs holes (HolePiece h) = hole_bytes rs (slice_get holes h)

-- names, numbers and holes are words; a space stands after the first piece of a line, and between two words
abbrev pub is_word : Piece → Bool
is_word (Byte b) = false
is_word p = true

abbrev pub space_bytes : Bool → ℕ
space_bytes true = 1
space_bytes false = 0

abbrev pub bytes_after : List Register → List Hole → Bool → List Piece → ℕ
bytes_after rs holes word [] = 0
bytes_after rs holes word (p ∷ ps) = space_bytes (word && is_word p) + piece_bytes rs holes p + bytes_after rs holes (is_word p) ps

-- a space stands after the first piece, whatever follows, and no other before the second
abbrev pub line_bytes : List Register → List Hole → List Piece → ℕ
line_bytes rs holes [] = 0
line_bytes rs holes (p ∷ []) = piece_bytes rs holes p
line_bytes rs holes (p ∷ (q ∷ qs)) = piece_bytes rs holes p + 1 + bytes_after rs holes false (q ∷ qs)

-- with the tab before it
abbrev pub longest_line : List Register → List Hole → List Piece → ℕ
longest_line rs holes ps = 1 + line_bytes rs holes ps
