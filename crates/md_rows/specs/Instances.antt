-- Instances: what an instruction of a description is, its tokens and the transfer that it makes.
use Rattle.std.specs.Prelude.{◌≡◌, ◌≢◌, ◌≤◌, ℕ, ◌^◌, ◌==◌, if◌then◌else◌, IsTrue, List, [], ◌∷◌, map, slice_get, Option, Some, None, option_map, AllPairs, filter_map, sum, decimal}
use Rattle.asm_token.specs.Tokens.{Token, Name as NameToken, Number as NumberToken, Mark as MarkToken}
use Rattle.rtl_tree.specs.Trees.{Tree, Number, Symbol, CodeLabel, Read, Load, Unary, Binary, AnyNumber, AnyName}
use Rattle.rtl_tree.specs.Moves.{Goal, ToCell, ToMemory, Move}
use Rattle.rtl_tree.specs.declared.cells.Cell.{Cell}
use Rattle.rtl_tree.specs.declared.cells.Cell.TheVariants.{Hard, Temp, Hole as RegisterHole}
use Rattle.rtl_tree.specs.declared.cells.Lab.TheVariants.{Block, Function}
use Rattle.md_rows.specs.declared.description.Register.{Register}
use Rattle.md_rows.specs.declared.description.Role.{Role}
use Rattle.md_rows.specs.declared.description.Role.TheVariants.{General}
use Rattle.md_rows.specs.declared.description.RawDescription.{RawDescription}
use Rattle.md_rows.specs.declared.row.Row.{Row}
use Rattle.md_rows.specs.declared.row.Hole.{Hole}
use Rattle.md_rows.specs.declared.row.Hole.TheVariants.{Reg as RegHole, Num as NumHole, Sym as SymHole, Label as LabelHole}
use Rattle.md_rows.specs.declared.row.Piece.{Piece}
use Rattle.md_rows.specs.declared.row.Piece.TheVariants.{Name, Num, Byte, Hole as HolePiece}
use Rattle.md_rows.specs.declared.instance.Bound.{Bound}
use Rattle.md_rows.specs.declared.instance.Bound.TheVariants.{Reg, Num as NumBound, Sym, Label}
use Rattle.md_rows.specs.declared.instance.Instance.{Instance}
use Rattle.md_rows.specs.Fits.{fits, printed}
use Rattle.md_rows.specs.Lines.{longest_line}

-- the leaf that a bound value stands for
abbrev pub leaf_of : Bound → Tree
leaf_of (Reg c) = Read c
leaf_of (NumBound n) = Number n
leaf_of (Sym n) = Symbol n
leaf_of (Label l) = CodeLabel l

abbrev pub held_by : Tree → Option Bound → Tree
held_by hole (Some v) = leaf_of v
held_by hole None = hole

-- a tree of a row with its holes filled
abbrev pub filled : List Bound → Tree → Tree
filled b (Read (RegisterHole h)) = held_by (Read (RegisterHole h)) (slice_get b h)
filled b (AnyNumber h) = held_by (AnyNumber h) (slice_get b h)
filled b (AnyName h) = held_by (AnyName h) (slice_get b h)
filled b (Load w a) = Load w (filled b a)
filled b (Unary o a) = Unary o (filled b a)
filled b (Binary o a c) = Binary o (filled b a) (filled b c)
filled b t = t

-- the register that stands in a hole
abbrev pub register_by : Cell → Option Bound → Cell
register_by hole (Some (Reg c)) = c
register_by hole _ = hole

abbrev pub filled_cell : List Bound → Cell → Cell
filled_cell b (RegisterHole h) = register_by (RegisterHole h) (slice_get b h)
filled_cell b c = c

abbrev pub filled_goal : List Bound → Goal → Goal
filled_goal b (ToCell c) = ToCell (filled_cell b c)
filled_goal b (ToMemory w a) = ToMemory w (filled b a)

abbrev pub filled_move : List Bound → Move → Move
filled_move b m = record { to = filled_goal b m.to; value = filled b m.value }

-- the transfer that a row makes with these values in its holes
abbrev pub effects_with : Row → List Bound → List Move
effects_with row b = map (filled_move b) row.effects

-- what has a name on a line: the registers, and a program's objects and functions
pub record Naming : Type 0 where
  pub registers : List Register
  pub objects : List (List ℕ)
  pub functions : List (List ℕ)

abbrev pub no_names : Naming
no_names = record { registers = []; objects = []; functions = [] }

-- the name of the first register of this number
abbrev pub register_name : List Register → ℕ → Option (List ℕ)
register_name [] k = None
register_name (r ∷ rs) k = if r.number == k then Some r.name else register_name rs k

-- a C name is written behind an underscore
abbrev pub symbol_token : List ℕ → Token
symbol_token name = NameToken (95 ∷ name)

-- the label of a block is `L` and its number
abbrev pub block_token : ℕ → Token
block_token n = NameToken (76 ∷ decimal n)

-- the token that a hole prints; none where its value has no name, as a temporary has none
abbrev pub hole_token : ℕ → Naming → Option Hole → Option Bound → Option Token
hole_token w names (Some (RegHole class)) (Some (Reg (Hard k))) = option_map NameToken (register_name names.registers k)
hole_token w names (Some (NumHole low high inverted)) (Some (NumBound v)) = option_map NumberToken (printed w low high inverted v)
hole_token w names (Some SymHole) (Some (Sym n)) = option_map symbol_token (slice_get names.objects n)
hole_token w names (Some LabelHole) (Some (Label (Block n))) = Some (block_token n)
hole_token w names (Some LabelHole) (Some (Label (Function n))) = option_map symbol_token (slice_get names.functions n)
hole_token w names _ _ = None

-- the token of a piece of a row's text
abbrev pub piece_token : ℕ → Naming → List Hole → List Bound → Piece → Option Token
piece_token w names holes b (Name bytes) = Some (NameToken bytes)
piece_token w names holes b (Num z) = Some (NumberToken z)
piece_token w names holes b (Byte c) = Some (MarkToken c)
piece_token w names holes b (HolePiece h) = hole_token w names (slice_get holes h) (slice_get b h)

-- these are the tokens of a row's line with these values in its holes: each piece of its text has one
abbrev pub HasTokens : ℕ → Naming → Row → List Bound → List Token → Type 0
HasTokens w names row b tokens = map (piece_token w names row.holes b) row.text ≡ map (λ t. Some t) tokens

-- the bits of the general registers
abbrev pub role_bit : Role → ℕ → ℕ
role_bit General n = 2 ^ n
role_bit _ n = 0

abbrev pub general_set : List Register → ℕ
general_set rs = sum (map (λ r. role_bit r.role r.number) rs)

-- each value fits its hole, and there is one for each
abbrev pub AllFit : ℕ → ℕ → List Hole → List Bound → Type 0
AllFit w g [] [] = Unit {0}
AllFit w g (h ∷ hs) (v ∷ vs) = IsTrue (fits w g h v) × AllFit w g hs vs
AllFit w g _ _ = ⊥

-- the register or temporary that a move assigns
abbrev pub assigned_register : Goal → Option Cell
assigned_register (ToCell (Hard k)) = Some (Hard k)
assigned_register (ToCell (Temp n)) = Some (Temp n)
assigned_register _ = None

-- a row with a binding is an instruction: no line of the row is longer than 640 bytes, each value fits its hole, and no two assigned
-- registers become one
pub record IsInstance (d : RawDescription) (i : Instance) (row : Row) : Type 0 where
  pub has_row : slice_get d.rows i.row ≡ Some row
  pub short : longest_line d.registers row.holes row.text ≤ 640
  pub fit : AllFit d.word (general_set d.registers) row.holes i.binding
  pub different : AllPairs (λ a b. a ≢ b) (filter_map (λ m. assigned_register m.to) (effects_with row i.binding))
