-- When a row covers a shape.
use Rattle.std.specs.Prelude.{◌≡◌, ℕ, ◌<◌, ◌≤◌, ◌^◌, Bool, true, false, nat_lt, bit_or, if◌then◌else◌, List, [], ◌∷◌, length, slice_get, All, Option, Some, None}
use Rattle.rtl_tree.specs.Trees.{Tree, Symbol, CodeLabel, Read, Load, Unary, Binary, AnyNumber, AnyName}
use Rattle.rtl_tree.specs.Moves.{Move}
use Rattle.rtl_tree.specs.declared.cells.Cell.{Cell}
use Rattle.rtl_tree.specs.declared.cells.Cell.TheVariants.{Hard, Temp, Hole as RegisterHole}
use Rattle.rtl_norm.specs.Transfers.{norm_moves}
use Rattle.md_rows.specs.declared.description.Register.{Register}
use Rattle.md_rows.specs.declared.description.Role.{Role}
use Rattle.md_rows.specs.declared.description.Role.TheVariants.{General, Result, Stack, Link, Other}
use Rattle.md_rows.specs.declared.description.RawDescription.{RawDescription}
use Rattle.md_rows.specs.declared.row.Row.{Row}
use Rattle.md_rows.specs.declared.row.Hole.{Hole}
use Rattle.md_rows.specs.declared.row.Hole.TheVariants.{Reg, Num, Sym, Label}
use Rattle.md_rows.specs.declared.instance.Bound.{Bound}
use Rattle.md_rows.specs.Fits.{is_in}
use Rattle.md_match.specs.Searches.{Marks, goal_tree, is_idle}
use Rattle.md_match.specs.Does.{Does}
use Rattle.md_shapes.specs.declared.table.Shape.{Shape}
use Rattle.md_shapes.specs.declared.patterns.Pattern.{Pattern}
use Rattle.md_shapes.specs.Patterns.{pattern_of}
use Rattle.md_shapes.specs.Shapes.{Frame, Open, shape_moves, has_transfer}
use Rattle.md_covers.specs.Numbers.{runs_of, IsNumberOf}
use Rattle.md_rows.specs.Lines.{longest_line}

-- the registers of a description

abbrev pub same_role : Role → Role → Bool
same_role General General = true
same_role Result Result = true
same_role Stack Stack = true
same_role Link Link = true
same_role Other Other = true
same_role _ _ = false

-- the number of the first register with a role
abbrev pub first_with : Role → List Register → Option ℕ
first_with role [] = None
first_with role (r ∷ rs) = if same_role r.role role then Some r.number else first_with role rs

-- the bits of the general registers, whose numbers are below 64
abbrev pub general_bit : Role → ℕ → ℕ
general_bit General n = if nat_lt n 64 then 2 ^ n else 0
general_bit _ n = 0

abbrev pub general_bits : List Register → ℕ
general_bits [] = 0
general_bits (r ∷ rs) = bit_or (general_bit r.role r.number) (general_bits rs)

abbrev pub frame_with : RawDescription → Option ℕ → Option ℕ → Option Frame
frame_with d (Some s) (Some q) =
    Some (record { bits = d.word; stack = s; result = q; link = first_with Link d.registers; memory = d.memory })
frame_with d _ _ = None

-- what a description fixes of the shapes
abbrev pub frame_in : RawDescription → Option Frame
frame_in d = frame_with d (first_with Stack d.registers) (first_with Result d.registers)

-- a general register or a temporary
abbrev pub IsGeneral : ℕ → Cell → Type 0
IsGeneral g (Hard k) = (k < 64) × (is_in g k ≡ true)
IsGeneral g (Temp n) = Unit {0}
IsGeneral g _ = ⊥

-- what a shape may leave open: registers, and its numbers
pub record IsOpenOf (w g : ℕ) (pattern : Pattern) (p : Open) : Type 0 where
  pub a : IsGeneral g p.a
  pub b : IsGeneral g p.b
  pub number : IsNumberOf (runs_of w pattern) p.number

-- some binding makes the row do a transfer, where its other assignments go to flags and name no general register by its number
pub record IsDoneBySome (w g : ℕ) (holes : List Hole) (row es : List Move) : Type 0 where
  pub binding : List Bound
  pub marks : Marks
  pub does : Does w g holes (is_idle 255 g) row es binding marks

-- for all registers and numbers of the shape some binding of at most eight values makes the row do it, and the row's longest line has
-- at most 640 bytes
pub record Covers (d : RawDescription) (r : Row) (s : Shape) : Type 0 where
  pub frame : Frame
  pub frame_is : frame_in d ≡ Some frame
  pub pattern : Pattern
  pub pattern_is : pattern_of s ≡ Some pattern
  pub transfer : has_transfer frame pattern ≡ true
  pub line : longest_line d.registers r.holes r.text ≤ 640
  pub few : length r.holes ≤ 8
  pub each : (p : Open) → IsOpenOf d.word (general_bits d.registers) pattern p
      → IsDoneBySome d.word (general_bits d.registers) r.holes r.normal (shape_moves frame pattern p)

-- rows as texts give them

abbrev pub is_register_hole : Option Hole → Bool
is_register_hole (Some (Reg class)) = true
is_register_hole _ = false

abbrev pub is_number_hole : Option Hole → Bool
is_number_hole (Some (Num low high inverted)) = true
is_number_hole _ = false

abbrev pub is_name_hole : Option Hole → Bool
is_name_hole (Some Sym) = true
is_name_hole (Some Label) = true
is_name_hole _ = false

-- each hole of a tree is one of the row's and stands where its kind can, and the tree names no temporary, symbol or label
abbrev pub IsRowTree : List Hole → Tree → Type 0
IsRowTree holes (Read (RegisterHole h)) = is_register_hole (slice_get holes h) ≡ true
IsRowTree holes (Read (Temp n)) = ⊥
IsRowTree holes (AnyNumber h) = is_number_hole (slice_get holes h) ≡ true
IsRowTree holes (AnyName h) = is_name_hole (slice_get holes h) ≡ true
IsRowTree holes (Symbol n) = ⊥
IsRowTree holes (CodeLabel l) = ⊥
IsRowTree holes (Load w a) = IsRowTree holes a
IsRowTree holes (Unary o a) = IsRowTree holes a
IsRowTree holes (Binary o a b) = IsRowTree holes a × IsRowTree holes b
IsRowTree holes _ = Unit {0}

pub record IsRowMove (holes : List Hole) (r : Move) : Type 0 where
  pub place : IsRowTree holes (goal_tree r.to)
  pub value : IsRowTree holes r.value

-- a row whose effects are such, with their normal form
pub record IsReadRow (w : ℕ) (r : Row) : Type 0 where
  pub effects : All (IsRowMove r.holes) r.effects
  pub normal : r.normal ≡ norm_moves w r.effects
