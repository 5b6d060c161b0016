-- What the lines of a description declare.
use Rattle.std.specs.Prelude.{◌≡◌, ℕ, ℤ, unsigned_abs, ◌^◌, List, [], ◌∷◌, length, map, filter_map, find, fold, Option, Some, None, option_map, unwrap_or, bit_or}
use Rattle.std.specs.Str.{bytes_eq}
use Rattle.md_rows.specs.declared.description.Register.{Register}
use Rattle.md_rows.specs.declared.description.FlagName.{FlagName}
use Rattle.md_text.specs.Lines.{Line, IsText, kept, width_of}
use Rattle.md_text.specs.Pieces.{Piece}
use Rattle.md_text.specs.Forms.{OpenTree, Form, MachineName, MemorySize, DataBegin, StackSize, RegisterLine, FlagLine, ClassLine, ModeLine, HasForm}

-- what the line of this number says
pub record Declaration : Type 0 where
  pub line : ℕ
  pub form : Form

-- what a text says, line by line; `width` has the bits of a word, and `last` the number of the last line
pub record Declared : Type 0 where
  pub width : ℕ
  pub all : List Declaration
  pub last : ℕ

-- line by line, the declarations are of the lines' forms
abbrev pub HaveForms : ℕ → List Line → List Declaration → Type 0
HaveForms w [] [] = Unit {0}
HaveForms w (line ∷ lines) (d ∷ ds) = (d.line ≡ line.number) × HasForm w line.bytes d.form × HaveForms w lines ds
HaveForms w _ _ = ⊥

-- the text declares this
pub record Declares (text : List ℕ) (d : Declared) : Type 0 where
  pub lines : List (List ℕ)
  pub is_text : IsText text lines
  pub width : d.width ≡ width_of (kept lines)
  pub forms : HaveForms d.width (kept lines) d.all
  pub last : d.last ≡ length lines

-- a number of a line that is in its range
abbrev pub number_of : ℤ → ℕ
number_of z = unsigned_abs z

abbrev pub register_of : Form → Option Register
register_of (RegisterLine k name role) = Some (record { number = number_of k; name = name; role = role })
register_of _ = None

abbrev pub registers_in : List Declaration → List Register
registers_in ds = filter_map (λ d. register_of d.form) ds

abbrev pub flag_of : Form → Option FlagName
flag_of (FlagLine k name) = Some (record { number = number_of k; name = name })
flag_of _ = None

abbrev pub flags_in : List Declaration → List FlagName
flags_in ds = filter_map (λ d. flag_of d.form) ds

-- a class: its name, and the names of its registers
pub record Class : Type 0 where
  pub name : List ℕ
  pub registers : List (List ℕ)

abbrev pub class_of : Form → Option Class
class_of (ClassLine name registers) = Some (record { name = name; registers = registers })
class_of _ = None

abbrev pub classes_in : List Declaration → List Class
classes_in ds = filter_map (λ d. class_of d.form) ds

-- an alternative of a mode: what is written, and what it means
pub record Alternative : Type 0 where
  pub mode : List ℕ
  pub text : List Piece
  pub tree : OpenTree

abbrev pub alternative_of : Form → Option Alternative
alternative_of (ModeLine name text tree) = Some (record { mode = name; text = text; tree = tree })
alternative_of _ = None

abbrev pub alternatives_in : List Declaration → List Alternative
alternatives_in ds = filter_map (λ d. alternative_of d.form) ds

abbrev pub class_names : List Declaration → List (List ℕ)
class_names ds = map (λ c. c.name) (classes_in ds)

abbrev pub mode_names : List Declaration → List (List ℕ)
mode_names ds = map (λ a. a.mode) (alternatives_in ds)

-- the bit of the register of this name
abbrev pub register_bit : List Register → List ℕ → ℕ
register_bit registers name = unwrap_or (option_map (λ r. 2 ^ r.number) (find (λ r. bytes_eq r.name name) registers)) 0

-- the bits of the registers of these names
abbrev pub register_bits : List Register → List (List ℕ) → ℕ
register_bits registers names = fold (λ bits name. bit_or bits (register_bit registers name)) 0 names

-- the bits of the registers of the class of this name
abbrev pub class_bits : List Declaration → List ℕ → ℕ
class_bits ds name =
    unwrap_or (option_map (λ c. register_bits (registers_in ds) c.registers) (find (λ c. bytes_eq c.name name) (classes_in ds))) 0

abbrev pub first_number : List ℤ → ℕ
first_number [] = 0
first_number (z ∷ zs) = number_of z

abbrev pub memory_number : Form → Option ℤ
memory_number (MemorySize z) = Some z
memory_number _ = None

abbrev pub data_number : Form → Option ℤ
data_number (DataBegin z) = Some z
data_number _ = None

abbrev pub stack_number : Form → Option ℤ
stack_number (StackSize z) = Some z
stack_number _ = None

abbrev pub memory_in : List Declaration → ℕ
memory_in ds = first_number (filter_map (λ d. memory_number d.form) ds)

abbrev pub data_in : List Declaration → ℕ
data_in ds = first_number (filter_map (λ d. data_number d.form) ds)

abbrev pub stack_in : List Declaration → ℕ
stack_in ds = first_number (filter_map (λ d. stack_number d.form) ds)

abbrev pub machine_name_of : Form → Option (List ℕ)
machine_name_of (MachineName name) = Some name
machine_name_of _ = None

abbrev pub first_name : List (List ℕ) → List ℕ
first_name [] = []
first_name (name ∷ names) = name

abbrev pub machine_name_in : List Declaration → List ℕ
machine_name_in ds = first_name (filter_map (λ d. machine_name_of d.form) ds)
