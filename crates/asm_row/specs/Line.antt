-- The lines of instances.
use Rattle.std.specs.Prelude.{◌≡◌, ℕ, ◌<◌, ◌^◌, List, length}
use Rattle.asm_token.specs.Tokens.{Token}
use Rattle.asm_token.specs.Line.{line_of}
use Rattle.rtl_tree.specs.declared.cells.Cell.TheVariants.{Temp}
use Rattle.rtl_tree.specs.declared.cells.Lab.TheVariants.{Block, Function}
use Rattle.rtl_tree.specs.declared.c_names.Names.{Names}
use Rattle.md_rows.specs.declared.description.RawDescription.{RawDescription}
use Rattle.md_rows.specs.declared.row.Row.{Row}
use Rattle.md_rows.specs.declared.instance.Bound.{Bound}
use Rattle.md_rows.specs.declared.instance.Bound.TheVariants.{Reg, Sym, Label}
use Rattle.md_rows.specs.declared.instance.Instance.{Instance}
use Rattle.md_rows.specs.Instances.{Naming, HasTokens, IsInstance}

-- what has a name on a line
abbrev pub naming_of : RawDescription → Names → Naming
naming_of d n = record { registers = d.registers; objects = n.objects; functions = n.functions }

-- no temporary, and no object or function that has no name
abbrev pub IsNamed : Names → Bound → Type 0
IsNamed n (Reg (Temp t)) = ⊥
IsNamed n (Sym s) = s < length n.objects
IsNamed n (Label (Function f)) = f < length n.functions
IsNamed n _ = Unit {0}

-- the number of a block is below 2 ^ 32
abbrev pub HasNumber : Bound → Type 0
HasNumber (Label (Block b)) = b < 2 ^ 32
HasNumber _ = Unit {0}

-- these are the tokens of the line of an instance
pub record IsLineOf (d : RawDescription) (n : Names) (i : Instance) (tokens : List Token) : Type 0 where
  pub row : Row
  pub is_instance : IsInstance d i row
  pub has : HasTokens d.word (naming_of d n) row i.binding tokens

-- the line is written as these bytes
pub record IsWritten (d : RawDescription) (n : Names) (i : Instance) (bytes : List ℕ) : Type 0 where
  pub tokens : List Token
  pub line : IsLineOf d n i tokens
  pub spelled : bytes ≡ line_of tokens
