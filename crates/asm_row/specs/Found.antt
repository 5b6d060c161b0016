-- What reading a line finds.
use Rattle.std.specs.Prelude.{◌≡◌, ◌⊎◌, ℕ, ◌<◌, ◌≤◌, ◌^◌, ◌&&◌, nat_lt, ℤ, pos, Bool, IsTrue, List, [], ◌∷◌, ◌++◌, map, filter_map, slice_get, Option, Some, None, decimal}
use Rattle.asm_token.specs.Tokens.{Token, Name as NameToken, Number as NumberToken, Mark as MarkToken}
use Rattle.rtl_tree.specs.Names.{IsName}
use Rattle.rtl_tree.specs.Moves.{Move}
use Rattle.rtl_tree.specs.declared.cells.Cell.{Cell}
use Rattle.md_rows.specs.declared.description.Register.{Register}
use Rattle.md_rows.specs.declared.description.RawDescription.{RawDescription}
use Rattle.md_rows.specs.declared.row.Row.{Row}
use Rattle.md_rows.specs.declared.row.Hole.{Hole}
use Rattle.md_rows.specs.declared.row.Piece.{Piece}
use Rattle.md_rows.specs.declared.row.Piece.TheVariants.{Name, Num, Byte, Hole as HolePiece}
use Rattle.md_rows.specs.Fits.{is_in, below_zero, printed}
use Rattle.md_rows.specs.Instances.{register_name}
use Rattle.md_rows.specs.Lines.{longest_line}
use Rattle.asm_row.specs.declared.values.Value.{Value as Held}
use Rattle.asm_row.specs.declared.values.Value.TheVariants as held
use Rattle.asm_row.specs.Reading.{Value, Register_, Number, Object, Block, Function, ReadsText, assigned_by, IsReading}

abbrev pub value_of : Held → Value
value_of (held.Register k) = Register_ k
value_of (held.Number v) = Number v
value_of (held.Object name) = Object name.now
value_of (held.Block b) = Block b
value_of (held.Function name) = Function name.now

-- the register of this number is of the class, and has the name
abbrev pub IsRegister : List Register → ℕ → List ℕ → ℕ → Type 0
IsRegister rs class name k = IsTrue (nat_lt k 64 && is_in class k) × (register_name rs k ≡ Some name)

-- the word t, or less by 2 ^ w, is z
abbrev pub IsCandidate : ℕ → ℤ → ℕ → Type 0
IsCandidate w z t = (t < 2 ^ w) × ((pos t ≡ z) ⊎ (below_zero w t ≡ z))

-- a number hole prints the number z for the word v
abbrev pub IsWordOf : ℕ → ℤ → ℤ → Bool → ℤ → ℕ → Type 0
IsWordOf w low high inverted z v = (v < 2 ^ w) × (printed w low high inverted v ≡ Some z)

abbrev pub IsDecimal : List ℕ → ℕ → Type 0
IsDecimal text n = (n < 2 ^ 32) × (text ≡ decimal n)

-- the token of the number n
abbrev pub IsNumberToken : Token → ℕ → Type 0
IsNumberToken t n = (n < 2 ^ 32) × (t ≡ NumberToken (pos n))

-- a register of these has the number k
abbrev pub HasNumberAmong : ℕ → List Register → Type 0
HasNumberAmong k [] = ⊥
HasNumberAmong k (r ∷ rs) = (r.number ≡ k) ⊎ HasNumberAmong k rs

abbrev pub IsBlockName : List ℕ → ℕ → Type 0
IsBlockName name b = (b < 2 ^ 32) × (name ≡ 76 ∷ decimal b)

abbrev pub IsSymbolOf : List ℕ → List ℕ → Type 0
IsSymbolOf name symbol = IsName symbol × (name ≡ 95 ∷ symbol)

-- a piece that is no hole has this token
abbrev pub IsFixed : Piece → Token → Type 0
IsFixed (Name bytes) t = NameToken bytes ≡ t
IsFixed (Num z) t = NumberToken z ≡ t
IsFixed (Byte b) t = MarkToken b ≡ t
IsFixed (HolePiece k) t = ⊥

-- the registers that a row's assignments are to
abbrev pub assigned_in : List Value → List Move → List Cell
assigned_in vs ms = filter_map (λ m. assigned_by vs m.to) ms

abbrev pub IsAmong : Cell → List Cell → Type 0
IsAmong c [] = ⊥
IsAmong c (x ∷ xs) = (x ≡ c) ⊎ IsAmong c xs

abbrev pub AllDiffer : List Cell → Type 0
AllDiffer [] = Unit {0}
AllDiffer (x ∷ xs) = (IsAmong x xs → ⊥) × AllDiffer xs

-- no row has these tokens
abbrev pub NoRow : RawDescription → List Token → Type 0
NoRow d ts = (i : ℕ) (row : Row) (vs : List Value) → slice_get d.rows i ≡ Some row → IsReading d row ts vs → ⊥

-- a row has these tokens, with these values in its holes
pub record IsFound (d : RawDescription) (ts : List Token) (place : ℕ) (vs : List Value) : Type 0 where
  pub row : Row
  pub has : slice_get d.rows place ≡ Some row
  pub reading : IsReading d row ts vs

abbrev pub IsHolePiece : Piece → Type 0
IsHolePiece (HolePiece k) = Unit {0}
IsHolePiece _ = ⊥

abbrev pub values_of : List Held → List Value
values_of vs = map value_of vs

-- what is left of a line was read, behind these values, or can't be read
abbrev pub AreRead : ℕ → List Register → List Piece → List Hole → List Token → List Value → Option (List Value) → Type 0
AreRead w rs ps hs ts before None = (vs : List Value) → ReadsText w rs ps hs ts vs → ⊥
AreRead w rs ps hs ts before (Some all) = (vs : List Value) × ReadsText w rs ps hs ts vs × (all ≡ before ++ vs)

-- a line of the row was read, or it is none
abbrev pub IsRowRead : RawDescription → Row → List Token → Option (List Value) → Type 0
IsRowRead d row ts None = (vs : List Value) → IsReading d row ts vs → ⊥
IsRowRead d row ts (Some vs) = IsReading d row ts vs

-- a row with these values is an instance
abbrev pub CanBe : RawDescription → Row → List Value → Type 0
CanBe d row vs = AllDiffer (assigned_in vs row.effects) × (longest_line d.registers row.holes row.text ≤ 640)
