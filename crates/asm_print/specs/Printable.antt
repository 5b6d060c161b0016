-- Which programs have an assembly text.
use Rattle.std.specs.Prelude.{◌≡◌, ℕ, ◌+◌, ◌-◌, ◌*◌, ◌<◌, ◌≤◌, List, length, filter_map, Option, Some, None, All}
use Rattle.rtl_tree.specs.declared.cells.Lab.{Lab}
use Rattle.rtl_tree.specs.declared.cells.Lab.TheVariants as lab
use Rattle.rtl_value.specs.declared.state.LabelAt.{LabelAt}
use Rattle.md_rows.specs.declared.description.RawDescription.{RawDescription}
use Rattle.md_rows.specs.declared.row.Row.{Row}
use Rattle.md_rows.specs.declared.instance.Bound.TheVariants.{Label as LabelBound}
use Rattle.md_rows.specs.declared.instance.Instance.{Instance}
use Rattle.md_rows.specs.Instances.{IsInstance}
use Rattle.asm_row.specs.Line.{HasNumber}
use Rattle.asm_program.specs.Programs.{Assembled}
use Rattle.asm_program.specs.Rules.{instruction_limit, name_limit, word_bytes}

-- an instruction of the description
pub record IsOf (d : RawDescription) (i : Instance) : Type 0 where
  pub row : Row
  pub is_instance : IsInstance d i row
  pub numbers : All HasNumber i.binding

-- the address of an object is a whole number of words from where the data begin, and not beyond their end
pub record IsAddress (d : RawDescription) (p : Assembled) (address : ℕ) : Type 0 where
  pub count : ℕ
  pub multiple : address ≡ d.base + count * word_bytes d
  pub within : address ≤ d.base + length p.bytes

abbrev pub function_in : Lab → Option ℕ
function_in (lab.Function f) = Some f
function_in (lab.Block b) = None

-- the functions that have a label
abbrev pub labelled : List LabelAt → List ℕ
labelled labels = filter_map (λ l. function_in l.label) labels

-- the program is one of the description, and passes no limit of its texts; numbers of blocks and bytes are of their types
pub record IsProgramFor (d : RawDescription) (p : Assembled) : Type 0 where
  pub lines : All (IsOf d) p.lines
  pub addresses : All (IsAddress d p) p.symbols
  pub instructions : length p.lines ≤ instruction_limit d.word
  pub statics : d.base + length p.bytes ≤ d.memory - d.stack
  pub names : length p.names.objects + length (labelled p.labels) ≤ name_limit
  pub blocks : All (λ l. HasNumber (LabelBound l.label)) p.labels
  pub bytes : All (λ b. b < 256) p.bytes
