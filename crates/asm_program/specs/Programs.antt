-- The program of an assembly text.
use Rattle.std.specs.Prelude.{◌≡◌, ◌≢◌, ◌↔◌, ℕ, zero, suc, ◌+◌, ◌-◌, ◌/◌, ◌%◌, ◌^◌, ◌≤◌, ℤ, pos, negsuc, List, [], ◌∷◌, ◌++◌, length, map, replicate, filter_map, slice_get, Option, Some, None, All, AllPairs, Contains}
use Rattle.std.specs.List.{AllZip}
use Rattle.asm_token.specs.Tokens.{Token}
use Rattle.rtl_tree.specs.declared.cells.Lab.{Lab}
use Rattle.rtl_tree.specs.declared.cells.Lab.TheVariants as lab
use Rattle.rtl_tree.specs.declared.c_names.Names.{Names}
use Rattle.rtl_value.specs.declared.state.LabelAt.{LabelAt}
use Rattle.md_rows.specs.declared.description.RawDescription.{RawDescription}
use Rattle.md_rows.specs.declared.instance.Bound.{Bound}
use Rattle.md_rows.specs.declared.instance.Bound.TheVariants.{Label as LabelBound}
use Rattle.md_rows.specs.declared.instance.Instance.{Instance}
use Rattle.asm_row.specs.Line.{IsLineOf, IsNamed, HasNumber}
use Rattle.asm_row.specs.Reading.{value_in}
use Rattle.asm_program.specs.TextLines.{Label, Block, Symbol, Said, DataBegins, Labelled, Word, Byte, Space, Others}
use Rattle.asm_program.specs.Places.{aligned, magnitude}
use Rattle.asm_program.specs.Rules.{AreSaid, IsSound, word_bytes}

-- a program: its instructions, the labels with their instructions' numbers, the address of each object, and the bytes of the data
pub record Assembled : Type 0 where
  pub lines : List Instance
  pub labels : List LabelAt
  pub symbols : List ℕ
  pub bytes : List ℕ
  pub names : Names

-- this is the label, by the names of functions
abbrev pub IsLab : Names → Label → Lab → Type 0
IsLab n (Block b) l = l ≡ lab.Block b
IsLab n (Symbol s) (lab.Function f) = slice_get n.functions f ≡ Some s
IsLab n (Symbol s) (lab.Block b) = ⊥

-- the label stands at the instruction of this number
pub record HasLabel (p : Assembled) (l : Label) (at : ℕ) : Type 0 where
  pub label : Lab
  pub is_label : IsLab p.names l label
  pub has : Contains p.labels (record { label = label; at = at })

-- the object of this name has this address
pub record HasObject (p : Assembled) (name : List ℕ) (address : ℕ) : Type 0 where
  pub place : ℕ
  pub has_name : slice_get p.names.objects place ≡ Some name
  pub has_address : slice_get p.symbols place ≡ Some address

-- the tokens of the instructions, in order
abbrev pub instruction_of : Said → Option (List Token)
instruction_of (Others ts) = Some ts
instruction_of _ = None

abbrev pub instructions : List Said → List (List Token)
instructions saids = filter_map instruction_of saids

-- the labels of the text part, from an instruction's number on
abbrev pub text_labels : ℕ → List Said → List (Label × ℕ)
text_labels n [] = []
text_labels n (Labelled l ∷ ss) = (l, n) ∷ text_labels n ss
text_labels n (Others ts ∷ ss) = text_labels (suc n) ss
text_labels n (DataBegins ∷ ss) = []
text_labels n (s ∷ ss) = text_labels n ss

-- the lines of the data part
abbrev pub data_part : List Said → List Said
data_part [] = []
data_part (DataBegins ∷ ss) = ss
data_part (s ∷ ss) = data_part ss

-- so many bytes of a number, the low one first
abbrev pub low_bytes : ℕ → ℕ → List ℕ
low_bytes zero n = []
low_bytes (suc k) n = n % 256 ∷ low_bytes k (n / 256)

-- a number modulo m, which is at least its size
abbrev pub residue : ℕ → ℤ → ℕ
residue m (pos n) = n
residue m (negsuc n) = m - suc n

abbrev pub padded : ℕ → List ℕ → List ℕ
padded wb bytes = bytes ++ replicate (aligned wb (length bytes) - length bytes) 0

-- the bytes of the data, behind a line of their part
abbrev pub bytes_after : ℕ → List ℕ → Said → List ℕ
bytes_after wb bytes (Labelled l) = padded wb bytes
bytes_after wb bytes (Word z) = padded wb bytes ++ low_bytes wb (residue (256 ^ wb) z)
bytes_after wb bytes (Byte z) = bytes ++ residue 256 z ∷ []
bytes_after wb bytes (Space z) = bytes ++ replicate (magnitude z) 0
bytes_after wb bytes s = bytes

abbrev pub bytes_from : ℕ → List ℕ → List Said → List ℕ
bytes_from wb bytes [] = bytes
bytes_from wb bytes (s ∷ ss) = bytes_from wb (bytes_after wb bytes s) ss

-- the object of a line, with its address
abbrev pub object_of : ℕ → Said → List (List ℕ × ℕ)
object_of address (Labelled (Symbol s)) = (s, address) ∷ []
object_of address s = []

-- the objects of the data part with their addresses, behind these bytes
abbrev pub objects_from : ℕ → ℕ → List ℕ → List Said → List (List ℕ × ℕ)
objects_from base wb bytes [] = []
objects_from base wb bytes (s ∷ ss) = object_of (base + length (bytes_after wb bytes s)) s ++ objects_from base wb (bytes_after wb bytes s) ss

-- the instruction has these tokens, and no other has
pub record IsLineIn (d : RawDescription) (n : Names) (tokens : List Token) (i : Instance) : Type 0 where
  pub numbers : All HasNumber i.binding
  pub line : IsLineOf d n i tokens
  pub only : (j : Instance) → All HasNumber j.binding → IsLineOf d n j tokens → j ≡ i

-- the program has what the lines say
pub record IsProgramOf (d : RawDescription) (saids : List Said) (p : Assembled) : Type 0 where
  pub lines : AllZip (IsLineIn d p.names) (instructions saids) p.lines
  pub labels : (l : Label) (at : ℕ) → HasLabel p l at ↔ Contains (text_labels 0 saids) (l, at)
  pub addresses : length p.symbols ≡ length p.names.objects
  pub objects :
      (name : List ℕ) (address : ℕ) → HasObject p name address ↔ Contains (objects_from d.base (word_bytes d) [] (data_part saids)) (name, address)
  pub bytes : p.bytes ≡ bytes_from (word_bytes d) [] (data_part saids)

-- the bytes are an assembly text of the described machine, and this is its program
pub record IsText (d : RawDescription) (text : List ℕ) (p : Assembled) : Type 0 where
  pub saids : List Said
  pub said : AreSaid text saids
  pub sound : IsSound d saids
  pub program : IsProgramOf d saids p

-- instructions of one row, with the same values by the names of each
pub record SameInstance (m n : Names) (i j : Instance) : Type 0 where
  pub row : i.row ≡ j.row
  pub values : map (value_in m) i.binding ≡ map (value_in n) j.binding

-- programs that differ in the numbers of names, the order of labels and functions that nothing names
pub record SameProgram (p q : Assembled) : Type 0 where
  pub lines : AllZip (SameInstance p.names q.names) p.lines q.lines
  pub labels : (l : Label) (at : ℕ) → HasLabel p l at ↔ HasLabel q l at
  pub objects : (name : List ℕ) (address : ℕ) → HasObject p name address ↔ HasObject q name address
  pub bytes : p.bytes ≡ q.bytes

-- a label that an instruction names stands somewhere
abbrev pub IsStanding : List LabelAt → Bound → Type 0
IsStanding labels (LabelBound l) = (at : ℕ) × Contains labels (record { label = l; at = at })
IsStanding labels _ = Unit {0}

-- the label of a function has a name
abbrev pub HasFunction : Names → LabelAt → Type 0
HasFunction n l = IsNamed n (LabelBound l.label)

-- what holds of every program
pub record IsAssembled (p : Assembled) : Type 0 where
  pub named : All (λ i. All (IsNamed p.names) i.binding) p.lines
  pub standing : All (λ i. All (IsStanding p.labels) i.binding) p.lines
  pub addresses : length p.symbols ≡ length p.names.objects
  pub apart : (name : List ℕ) → Contains p.names.objects name → Contains p.names.functions name → ⊥
  pub different : AllPairs (λ a b. a.label ≢ b.label) p.labels
  pub within : All (λ l. l.at ≤ length p.lines) p.labels
  pub functions : All (HasFunction p.names) p.labels
