-- What reading a line answers.
use Rattle.std.specs.Prelude.{◌≡◌, ℕ, ◌+◌, ◌≤◌, List, ◌++◌, length, All, Contains, Result, Ok, Err}
use Rattle.asm_token.specs.Tokens.{Token}
use Rattle.rtl_tree.specs.Names.{AreNames, IsName}
use Rattle.rtl_tree.specs.declared.c_names.Names.{Names}
use Rattle.md_rows.specs.declared.description.RawDescription.{RawDescription}
use Rattle.md_rows.specs.declared.instance.Instance.{Instance}
use Rattle.md_rows.specs.Instances.{symbol_token}
use Rattle.asm_line.specs.declared.lines.LineFault.{LineFault}
use Rattle.asm_line.specs.declared.lines.LineFault.TheVariants as fault
use Rattle.asm_row.specs.Line.{IsLineOf, HasNumber}
use Rattle.asm_row.specs.Reading.{Value, Object, Function}
use Rattle.asm_row.specs.Walk.{IsLine, LineOf}
use Rattle.asm_row.specs.Found.{IsFound}

-- a list of names with others behind it, each as P says
pub record Grows (P : List ℕ → Type 0) (old new : List (List ℕ)) : Type 0 where
  pub more : List (List ℕ)
  pub are : new ≡ old ++ more
  pub each : All P more

-- names with others behind them
pub record IsExtension (P Q : List ℕ → Type 0) (old new : Names) : Type 0 where
  pub objects : Grows P old.objects new.objects
  pub functions : Grows Q old.functions new.functions

-- under some names that begin with those that are known the tokens are those of an instance
pub record HasInstance (d : RawDescription) (n : Names) (tokens : List Token) : Type 0 where
  pub names : Names
  pub objects : AreNames names.objects
  pub functions : AreNames names.functions
  pub extension : IsExtension (λ name. Unit {0}) (λ name. Unit {0}) n names
  pub instance : Instance
  pub numbers : All HasNumber instance.binding
  pub line : IsLineOf d names instance tokens

-- the tokens say a row, and what stands in its holes
pub record SaysRow (d : RawDescription) (tokens : List Token) : Type 0 where
  pub place : ℕ
  pub values : List Value
  pub found : IsFound d tokens place values

abbrev pub IsNamedBy : List Token → List ℕ → Type 0
IsNamedBy tokens name = Contains tokens (symbol_token name)

-- the text is the line of the instance, and each name that is new is named by it
pub record IsRead (d : RawDescription) (old new : Names) (text : List ℕ) (i : Instance) : Type 0 where
  pub tokens : List Token
  pub spelled : IsLine text tokens
  pub extension : IsExtension (IsNamedBy tokens) (IsNamedBy tokens) old new
  pub numbers : All HasNumber i.binding
  pub line : IsLineOf d new i tokens

-- the text has tokens, and no instance has them
pub record HasNoRow (d : RawDescription) (n : Names) (text : List ℕ) : Type 0 where
  pub tokens : LineOf text
  pub never : (ts : List Token) → IsLine text ts → HasInstance d n ts → ⊥

-- the text has the tokens of some instance
pub record HasRow (d : RawDescription) (text : List ℕ) : Type 0 where
  pub tokens : LineOf text
  pub row : SaysRow d tokens.0

-- a line was read, or why not
abbrev pub IsLineRead : RawDescription → Names → Names → List ℕ → Result Instance LineFault → Type 0
IsLineRead d old new text (Ok i) = IsRead d old new text i
IsLineRead d old new text (Err fault.BadToken) = LineOf text → ⊥
IsLineRead d old new text (Err fault.NoRow) = HasNoRow d old text
IsLineRead d old new text (Err fault.NoMemory) = HasRow d text

-- the names that a value has
abbrev pub Adds : Value → Names → Names → Type 0
Adds v old new = IsExtension (λ m. v ≡ Object m) (λ m. v ≡ Function m) old new

abbrev pub AddsAll : List Value → Names → Names → Type 0
AddsAll vs old new = IsExtension (λ m. Contains vs (Object m)) (λ m. Contains vs (Function m)) old new

abbrev pub HasNameValue : Value → Type 0
HasNameValue (Object name) = IsName name
HasNameValue (Function name) = IsName name
HasNameValue _ = Unit {0}

-- so many names more have places
pub record HasRoom (k : ℕ) (n : Names) : Type 0 where
  pub objects : length n.objects + k ≤ 65536
  pub functions : length n.functions + k ≤ 65536
