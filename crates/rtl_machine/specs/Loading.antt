-- The program of a description as the definition of a run sees it, and machines that are loaded with one.
use Rattle.std.specs.Prelude.{ℕ, ◌+◌, ◌-◌, ◌<◌, ◌≤◌, ◌≡◌, ◌^◌, ◌++◌, List, [], length, map, replicate, slice_get, slice_index, false, Option, Some, None, All}
use Rattle.rtl_tree.specs.Moves.{Move}
use Rattle.rtl_value.specs.declared.state.LabelAt.{LabelAt}
use Rattle.md_rows.specs.declared.description.RawDescription.{RawDescription}
use Rattle.md_rows.specs.declared.row.Row.{Row}
use Rattle.md_rows.specs.declared.instance.Bound.{Bound}
use Rattle.md_rows.specs.declared.instance.Bound.TheVariants.{Num, Sym, Label}
use Rattle.md_rows.specs.declared.instance.Instance.{Instance}
use Rattle.md_rows.specs.Instances.{effects_with}
use Rattle.md_check.specs.Checking.{IsChecked}
use Rattle.md_instances.specs.Instances.{IsOfDescription}
use Rattle.asm_program.specs.Programs.{Assembled, IsText}
use Rattle.machine_run.specs.Machine.{Code, label_in}
use Rattle.machine_forms.specs.Forms.{moves_of as moves_in}
use Rattle.machine_step.specs.Steps.{IsCode, IsReady}
use Rattle.machine_step.specs.Runs.{IsCodeOf, HasRun}
use Rattle.rtl_machine.specs.declared.parts.Parts.{Parts}

abbrev pub moves_by : Option Row → List Bound → List Move
moves_by (Some row) b = effects_with row b
moves_by None b = []

-- the transfer of an instruction; one of a row that the description lacks does nothing
abbrev pub moves_of : RawDescription → Instance → List Move
moves_of d i = moves_by (slice_get d.rows i.row) i.binding

-- the program, with the words, the memory and the rows of the description
abbrev pub code_of : RawDescription → Assembled → Code
code_of d p = record {
  word = d.word;
  size = d.memory;
  base = d.base;
  bytes = p.bytes;
  symbols = p.symbols;
  labels = p.labels;
  transfers = map (moves_of d) p.lines;
}

-- a number in place of a name
abbrev pub link_in : List ℕ → List LabelAt → Bound → Bound
link_in symbols labels (Sym n) = Num (slice_index symbols n)
link_in symbols labels (Label l) = Num (label_in labels l)
link_in symbols labels v = v

abbrev pub linked_line : RawDescription → Assembled → Instance → List Move
linked_line d p i = moves_by (slice_get d.rows i.row) (map (link_in p.symbols p.labels) i.binding)

abbrev pub memory_with_data : ℕ → ℕ → List ℕ → List ℕ
memory_with_data base size bytes = (replicate base 0 ++ bytes) ++ replicate (size - (base + length bytes)) 0

-- a program of the described machine: its instructions are instances of rows, each place is a word, what stands for an object's name is
-- one too, and the data lie in memory
pub record IsLoadable (d : RawDescription) (p : Assembled) : Type 0 where
  pub instances : All (IsOfDescription d) p.lines
  pub symbols : All (λ a. a < 2 ^ d.word) p.symbols
  pub short : length p.lines < 2 ^ d.word
  pub within_memory : d.base + length p.bytes ≤ d.memory

-- the program of a text is such, for an accepted description
abbrev pub TextsAreLoadable : Type 0
TextsAreLoadable = (w : ℕ) (d : RawDescription) (text : List ℕ) (p : Assembled) → IsChecked w d → IsText d text p → IsLoadable d p

-- what holds of every machine
pub record IsMachine (w : ℕ) (m : Parts) : Type 0 where
  pub code : IsCode w (map moves_in m.code.items)
  pub ready : IsReady w m.running

-- the machine has the program's code, and has run it for no turn: nothing was taken and nothing printed
pub record IsLoaded (w : ℕ) (p : Code) (m : Parts) : Type 0 where
  pub code : IsCodeOf w p (map moves_in m.code.items)
  pub run : HasRun w p m.running [] [] 0
  pub waiting : m.running.waiting ≡ []
  pub mark : m.running.reader.ended ≡ false
  pub stopped : m.running.stopped ≡ None
