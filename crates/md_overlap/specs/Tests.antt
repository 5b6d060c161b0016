-- The tests that decide whether some token fits two pieces.
use Rattle.std.specs.Prelude.{◌≡◌, ◌⊎◌, ℕ, true, IsTrue, List, [], ◌∷◌, slice_get, Option, Some, None, int_le}
use Rattle.asm_token.specs.Tokens.{Name as NameToken, Number as NumberToken, Mark as MarkToken}
use Rattle.md_rows.specs.declared.description.Register.{Register}
use Rattle.md_rows.specs.declared.row.Hole.{Hole}
use Rattle.md_rows.specs.declared.row.Hole.TheVariants.{Reg as RegHole, Num as NumHole, Sym as SymHole, Label as LabelHole}
use Rattle.md_rows.specs.declared.row.Piece.{Piece}
use Rattle.md_rows.specs.declared.row.Piece.TheVariants.{Name, Num, Byte, Hole as HolePiece}
use Rattle.md_rows.specs.Fits.{is_in}
use Rattle.md_overlap.specs.Overlap.{FitsHole}

-- a register of both classes
abbrev pub Shared : List Register → ℕ → ℕ → Type 0
Shared [] c d = ⊥
Shared (r ∷ rs) c d = (IsTrue (is_in c r.number) × IsTrue (is_in d r.number)) ⊎ Shared rs c d

-- a token fits both holes
abbrev pub HolesShare : List Register → Hole → Hole → Type 0
HolesShare rs (RegHole c) (RegHole d) = Shared rs c d
HolesShare rs (NumHole low high inverted) (NumHole least most other) = (int_le low most ≡ true) × (int_le least high ≡ true)
HolesShare rs SymHole SymHole = Unit {0}
HolesShare rs SymHole LabelHole = Unit {0}
HolesShare rs LabelHole SymHole = Unit {0}
HolesShare rs LabelHole LabelHole = Unit {0}
HolesShare rs _ _ = ⊥

abbrev pub SomeShare : List Register → Option Hole → Option Hole → Type 0
SomeShare rs (Some h) (Some k) = HolesShare rs h k
SomeShare rs _ _ = ⊥

-- a hole takes the one token of a piece
abbrev pub Takes : List Register → Hole → Piece → Type 0
Takes rs hole (Name bytes) = FitsHole rs hole (NameToken bytes)
Takes rs hole (Num z) = FitsHole rs hole (NumberToken z)
Takes rs hole (Byte b) = FitsHole rs hole (MarkToken b)
Takes rs hole (HolePiece h) = ⊥

abbrev pub SomeTakes : List Register → Option Hole → Piece → Type 0
SomeTakes rs (Some hole) p = Takes rs hole p
SomeTakes rs None p = ⊥

abbrev pub Share : List Register → List Hole → Piece → List Hole → Piece → Type 0
Share rs holes (HolePiece h) others (HolePiece k) = SomeShare rs (slice_get holes h) (slice_get others k)
Share rs holes (HolePiece h) others q = SomeTakes rs (slice_get holes h) q
Share rs holes p others (HolePiece k) = SomeTakes rs (slice_get others k) p
Share rs holes (Name a) others (Name b) = a ≡ b
Share rs holes (Num a) others (Num b) = a ≡ b
Share rs holes (Byte a) others (Byte b) = a ≡ b
Share rs holes _ others _ = ⊥
