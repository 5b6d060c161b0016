-- Names that are known, and what stands in a line whose names are.
use Rattle.std.specs.Prelude.{◌≡◌, ℕ, List, [], ◌∷◌, ◌++◌, All, Contains}
use Rattle.std.specs.List.{AllZip}
use Rattle.asm_token.specs.Tokens.{Token}
use Rattle.rtl_tree.specs.declared.c_names.Names.{Names}
use Rattle.md_rows.specs.declared.description.RawDescription.{RawDescription}
use Rattle.md_rows.specs.declared.instance.Instance.{Instance}
use Rattle.asm_row.specs.Reading.{Value, Object, Function, AreValues}
use Rattle.asm_row.specs.Found.{IsFound}
use Rattle.asm_row.specs.Walk.{IsLine}
use Rattle.asm_program.specs.declared.places.Part.TheVariants.{InText, InData}
use Rattle.asm_program.specs.TextLines.{Symbol, Said}
use Rattle.asm_program.specs.Places.{Position}
use Rattle.asm_program.specs.Rules.{AreSaid, IsSound, StandsIn, Walks}
use Rattle.asm_program.specs.Programs.{IsLineIn, instructions}
use Rattle.asm_labels.specs.declared.saying.Said.{Said as Held}
use Rattle.asm_labels.specs.declared.saying.Said.TheVariants as held

-- what a value names has a number
abbrev pub IsKnown : Names → Value → Type 0
IsKnown n (Object name) = Contains n.objects name
IsKnown n (Function name) = Contains n.functions name
IsKnown n _ = Unit {0}

-- a row has the tokens, and all that they name has a number
pub record IsKnownLine (d : RawDescription) (n : Names) (ts : List Token) : Type 0 where
  pub place : ℕ
  pub values : List Value
  pub found : IsFound d ts place values
  pub known : All (IsKnown n) values

-- the instance that has the tokens, with what they say in its holes
pub record IsBoundLine (d : RawDescription) (n : Names) (ts : List Token) (i : Instance) : Type 0 where
  pub values : List Value
  pub found : IsFound d ts i.row values
  pub are : AreValues n i.binding values
  pub line : IsLineIn d n ts i

-- each label of a C name has a number in its part
pub record HaveLabels (n : Names) (all : List Said) : Type 0 where
  pub objects : (name : List ℕ) → StandsIn all (Symbol name) InData → Contains n.objects name
  pub functions : (name : List ℕ) → StandsIn all (Symbol name) InText → Contains n.functions name

-- a text that keeps the rules, with numbers for its labels
pub record IsNamedText (d : RawDescription) (n : Names) (text : List ℕ) (all : List Said) : Type 0 where
  pub said : AreSaid text all
  pub sound : IsSound d all
  pub labels : HaveLabels n all

-- an instruction adds the instance of its line, and another line nothing
pub record AddsInstance (d : RawDescription) (n : Names) (line : List ℕ) (old new : List Instance) : Type 0 where
  pub instance : Instance
  pub bound : (ts : List Token) → IsLine line ts → IsBoundLine d n ts instance
  pub are : new ≡ old ++ instance ∷ []

abbrev pub AddsLine : RawDescription → Names → List ℕ → Held → List Instance → List Instance → Type 0
AddsLine d n line held.Others old new = AddsInstance d n line old new
AddsLine d n line _ old new = new ≡ old

-- the instances so far and those of what is left are those of all
pub record AreLinesLeft (d : RawDescription) (n : Names) (all : List Said) (rest : List ℕ) (lines : List Instance) : Type 0 where
  pub left : List Said
  pub said : AreSaid rest left
  pub position : Position
  pub last : Position
  pub walks : Walks d all position left last
  pub zip : (more : List Instance) → AllZip (IsBoundLine d n) (instructions left) more → AllZip (IsBoundLine d n) (instructions all) (lines ++ more)
