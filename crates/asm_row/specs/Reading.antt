-- What the tokens of a line say of the holes of a row, by the names themselves.
use Rattle.std.specs.Prelude.{◌≡◌, ◌≢◌, ℕ, ◌<◌, ◌≤◌, ◌^◌, ◌&&◌, nat_lt, List, [], ◌∷◌, Option, Some, None, option_map, slice_get, filter_map, AllPairs, IsTrue, decimal}
use Rattle.asm_token.specs.Tokens.{Token, Name as NameToken, Number as NumberToken, Mark as MarkToken}
use Rattle.rtl_tree.specs.Names.{IsName}
use Rattle.rtl_tree.specs.Moves.{Goal, ToCell}
use Rattle.rtl_tree.specs.declared.cells.Cell.{Cell}
use Rattle.rtl_tree.specs.declared.cells.Cell.TheVariants.{Hard, Temp, Hole as RegisterHole}
use Rattle.rtl_tree.specs.declared.cells.Lab.TheVariants.{Block as BlockLabel, Function as FunctionLabel}
use Rattle.rtl_tree.specs.declared.c_names.Names.{Names}
use Rattle.md_rows.specs.declared.description.Register.{Register}
use Rattle.md_rows.specs.declared.description.RawDescription.{RawDescription}
use Rattle.md_rows.specs.declared.row.Row.{Row}
use Rattle.md_rows.specs.declared.row.Hole.{Hole}
use Rattle.md_rows.specs.declared.row.Hole.TheVariants.{Reg as RegHole, Num as NumHole, Sym as SymHole, Label as LabelHole}
use Rattle.md_rows.specs.declared.row.Piece.{Piece}
use Rattle.md_rows.specs.declared.row.Piece.TheVariants.{Name, Num, Byte, Hole as HolePiece}
use Rattle.md_rows.specs.declared.instance.Bound.{Bound}
use Rattle.md_rows.specs.declared.instance.Bound.TheVariants.{Reg, Num as NumBound, Sym, Label}
use Rattle.md_rows.specs.Fits.{is_in, printed}
use Rattle.md_rows.specs.Instances.{register_name}
use Rattle.md_rows.specs.Lines.{longest_line}

-- what stands in a hole; an object or a function is told by its name
pub data Value : Type 0 where
  Register_ : ℕ → Value
  Number : ℕ → Value
  Object : List ℕ → Value
  Block : ℕ → Value
  Function : List ℕ → Value

-- a token says this value of a hole
abbrev pub Reads : ℕ → List Register → Hole → Token → Value → Type 0
Reads w rs (RegHole class) (NameToken name) (Register_ k) = IsTrue (nat_lt k 64 && is_in class k) × (register_name rs k ≡ Some name)
Reads w rs (NumHole low high inverted) (NumberToken z) (Number v) = (v < 2 ^ w) × (printed w low high inverted v ≡ Some z)
Reads w rs SymHole (NameToken name) (Object object) = IsName object × (name ≡ 95 ∷ object)
Reads w rs LabelHole (NameToken name) (Block b) = (b < 2 ^ 32) × (name ≡ 76 ∷ decimal b)
Reads w rs LabelHole (NameToken name) (Function function) = IsName function × (name ≡ 95 ∷ function)
Reads w rs _ _ _ = ⊥

-- the tokens are those of the pieces, and say these values of the holes
abbrev pub ReadsText : ℕ → List Register → List Piece → List Hole → List Token → List Value → Type 0
ReadsText w rs [] [] [] [] = Unit {0}
ReadsText w rs (Name bytes ∷ ps) hs (t ∷ ts) vs = (NameToken bytes ≡ t) × ReadsText w rs ps hs ts vs
ReadsText w rs (Num z ∷ ps) hs (t ∷ ts) vs = (NumberToken z ≡ t) × ReadsText w rs ps hs ts vs
ReadsText w rs (Byte b ∷ ps) hs (t ∷ ts) vs = (MarkToken b ≡ t) × ReadsText w rs ps hs ts vs
ReadsText w rs (HolePiece k ∷ ps) (h ∷ hs) (t ∷ ts) (v ∷ vs) = Reads w rs h t v × ReadsText w rs ps hs ts vs
ReadsText w rs _ _ _ _ = ⊥

-- the value that a bound value is, where it has one
abbrev pub value_in : Names → Bound → Option Value
value_in n (Reg (Hard k)) = Some (Register_ k)
value_in n (NumBound v) = Some (Number v)
value_in n (Sym s) = option_map Object (slice_get n.objects s)
value_in n (Label (BlockLabel b)) = Some (Block b)
value_in n (Label (FunctionLabel f)) = option_map Function (slice_get n.functions f)
value_in n _ = None

abbrev pub AreValues : Names → List Bound → List Value → Type 0
AreValues n [] [] = Unit {0}
AreValues n (b ∷ bs) (v ∷ vs) = (value_in n b ≡ Some v) × AreValues n bs vs
AreValues n _ _ = ⊥

-- the register that stands in a hole
abbrev pub register_of : Option Value → Option Cell
register_of (Some (Register_ k)) = Some (Hard k)
register_of _ = None

-- the register that a goal of a row becomes
abbrev pub assigned_by : List Value → Goal → Option Cell
assigned_by vs (ToCell (Hard k)) = Some (Hard k)
assigned_by vs (ToCell (Temp n)) = Some (Temp n)
assigned_by vs (ToCell (RegisterHole h)) = register_of (slice_get vs h)
assigned_by vs _ = None

-- the tokens are those of an instance of the row with these values
pub record IsReading (d : RawDescription) (row : Row) (tokens : List Token) (vs : List Value) : Type 0 where
  pub reads : ReadsText d.word d.registers row.text row.holes tokens vs
  pub short : longest_line d.registers row.holes row.text ≤ 640
  pub different : AllPairs (λ a b. a ≢ b) (filter_map (λ m. assigned_by vs m.to) row.effects)
