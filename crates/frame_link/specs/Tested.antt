-- What linking tests of the program that it made.
use Rattle.std.specs.Prelude.{◌≡◌, ◌≢◌, ℕ, ◌+◌, ◌≤◌, Bool, true, false, ◌||◌, nat_eq, List, [], ◌∷◌, length, All, Contains}
use Rattle.std.specs.HashSet.{contains}
use Rattle.rtl_tree.specs.declared.cells.Lab.{Lab}
use Rattle.rtl_tree.specs.declared.cells.Lab.TheVariants.{Block, Function}
use Rattle.rtl_tree.specs.declared.c_names.Names.{Names}
use Rattle.rtl_tree.specs.Same.{same_label}
use Rattle.rtl_value.specs.declared.state.LabelAt.{LabelAt}
use Rattle.md_rows.specs.declared.description.RawDescription.{RawDescription}
use Rattle.md_rows.specs.declared.instance.Bound.{Bound}
use Rattle.md_rows.specs.declared.instance.Bound.TheVariants.{Label}
use Rattle.md_rows.specs.declared.instance.Instance.{Instance}
use Rattle.temp_code.specs.declared.code.Unit.{Unit as Program}
use Rattle.asm_row.specs.Line.{IsNamed, HasNumber}
use Rattle.asm_program.specs.Programs.{Assembled, HasFunction}
use Rattle.asm_program.specs.Rules.{instruction_limit, name_limit}
use Rattle.asm_print.specs.Printable.{IsAddress, labelled}
use Rattle.frame_link.specs.declared.standing.Standing.{Standing}

-- whether a table of labels has this one
abbrev pub holds : Standing → Lab → Bool
holds t (Block b) = contains nat_eq t.blocks b
holds t (Function f) = contains nat_eq t.functions f

abbrev pub is_among : Lab → List LabelAt → Bool
is_among l [] = false
is_among l (x ∷ xs) = same_label x.label l || is_among l xs

-- the table has just these labels
abbrev pub HoldsLabels : List LabelAt → Standing → Type 0
HoldsLabels labels t = (l : Lab) → holds t l ≡ is_among l labels

abbrev pub Differ : LabelAt → LabelAt → Type 0
Differ a b = a.label ≢ b.label

abbrev pub IsHeld : Standing → Bound → Type 0
IsHeld t (Label l) = holds t l ≡ true
IsHeld t v = Unit {0}

-- a value in an instruction has a name, stands where it is a label, and has a number that is written
pub record IsPlaced (n : Names) (t : Standing) (v : Bound) : Type 0 where
  pub named : IsNamed n v
  pub held : IsHeld t v
  pub number : HasNumber v

-- a label lies within so many lines, has a name where it is a function's, and a number that is written
pub record IsLabel (n : Names) (count : ℕ) (l : LabelAt) : Type 0 where
  pub within : l.at ≤ count
  pub function : HasFunction n l
  pub number : HasNumber (Label l.label)

abbrev pub AreApart : List (List ℕ) → List (List ℕ) → Type 0
AreApart objects functions = (name : List ℕ) → Contains objects name → Contains functions name → ⊥

-- an address of an object, in any program of these bytes
abbrev pub IsAddressIn : RawDescription → List ℕ → ℕ → Type 0
IsAddressIn d bytes a = (p : Assembled) → p.bytes ≡ bytes → IsAddress d p a

-- the program of these lines and labels, and of a unit's data and names
abbrev pub assembled : List Instance → List LabelAt → Program → Assembled
assembled lines labels u = record { lines = lines; labels = labels; symbols = u.symbols; bytes = u.bytes; names = u.names }

pub record IsTested (d : RawDescription) (t : Standing) (p : Assembled) : Type 0 where
  pub values : All (λ i. All (IsPlaced p.names t) i.binding) p.lines
  pub labels : All (IsLabel p.names (length p.lines)) p.labels
  pub symbols : All (IsAddressIn d p.bytes) p.symbols
  pub instructions : length p.lines ≤ instruction_limit d.word
  pub names : length p.names.objects + length (labelled p.labels) ≤ name_limit
  pub apart : AreApart p.names.objects p.names.functions
