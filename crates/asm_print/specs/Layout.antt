-- The lines that are written for a program.
use Rattle.std.specs.Prelude.{◌≡◌, ℕ, ◌+◌, ◌-◌, ◌≤◌, pos, List, [], ◌∷◌, ◌++◌, length, map, take, drop, filter_map, slice_get, Option, Some, None, unwrap_or}
use Rattle.std.specs.List.Sorted.{IsPermutation}
use Rattle.asm_token.specs.Tokens.{Token}
use Rattle.rtl_tree.specs.declared.cells.Lab.{Lab}
use Rattle.rtl_tree.specs.declared.cells.Lab.TheVariants as lab
use Rattle.rtl_tree.specs.declared.c_names.Names.{Names}
use Rattle.rtl_value.specs.declared.state.LabelAt.{LabelAt}
use Rattle.md_rows.specs.declared.description.RawDescription.{RawDescription}
use Rattle.md_rows.specs.declared.row.Row.{Row}
use Rattle.md_rows.specs.declared.instance.Bound.{Bound}
use Rattle.md_rows.specs.declared.instance.Instance.{Instance}
use Rattle.md_rows.specs.Instances.{piece_token}
use Rattle.asm_row.specs.Line.{naming_of}
use Rattle.asm_program.specs.TextLines.{Label, Block, Symbol, Said, TextBegins, DataBegins, Labelled, Byte, Others}
use Rattle.asm_program.specs.Programs.{Assembled}
use Rattle.asm_print.specs.declared.stops.ObjectAt.{ObjectAt}

-- the label of a function or a block
abbrev pub label_of : Names → Lab → Label
label_of n (lab.Block b) = Block b
label_of n (lab.Function f) = Symbol (unwrap_or (slice_get n.functions f) [])

abbrev pub object_label : Names → ℕ → Label
object_label n o = Symbol (unwrap_or (slice_get n.objects o) [])

abbrev pub tokens_by : RawDescription → Names → List Bound → Option Row → List Token
tokens_by d n b None = []
tokens_by d n b (Some row) = filter_map (piece_token d.word (naming_of d n) row.holes b) row.text

-- the tokens of an instruction's line
abbrev pub tokens_of : RawDescription → Names → Instance → List Token
tokens_of d n i = tokens_by d n i.binding (slice_get d.rows i.row)

-- the instructions, a line each
abbrev pub instruction_lines : RawDescription → Names → List Instance → List Said
instruction_lines d n is = map (λ i. Others (tokens_of d n i)) is

-- the bytes of the data, a line each
abbrev pub byte_lines : List ℕ → List Said
byte_lines bytes = map (λ b. Byte (pos b)) bytes

-- a label, and the place of the line before which it stands
abbrev pub Stop : Type 0
Stop = Label × ℕ

-- lines from a place on, with each label before the line of its place
abbrev pub woven : ℕ → List Stop → List Said → List Said
woven k [] lines = lines
woven k (stop ∷ stops) lines = take (stop.1 - k) lines ++ Labelled stop.0 ∷ woven stop.1 stops (drop (stop.1 - k) lines)

-- the labels stand in order, from one place to another
abbrev pub AreBetween : ℕ → ℕ → List Stop → Type 0
AreBetween low high [] = low ≤ high
AreBetween low high (stop ∷ stops) = (low ≤ stop.1) × AreBetween stop.1 high stops

abbrev pub label_stop : Names → LabelAt → Stop
label_stop n l = (label_of n l.label, l.at)

abbrev pub object_stop : Names → ObjectAt → Stop
object_stop n o = (object_label n o.object, o.at)

-- the objects with their addresses, from the object of this number on
abbrev pub numbered : ℕ → List ℕ → List ObjectAt
numbered n [] = []
numbered n (a ∷ rest) = record { object = n; at = a } ∷ numbered (n + 1) rest

abbrev pub lines_for : RawDescription → Assembled → List LabelAt → List ObjectAt → List Said
lines_for d p labels objects =
    TextBegins ∷ (woven 0 (map (label_stop p.names) labels) (instruction_lines d p.names p.lines)
    ++ DataBegins ∷ woven d.base (map (object_stop p.names) objects) (byte_lines p.bytes))

-- the lines of a program: labels and objects stand in the order of their places
pub record AreLinesFor (d : RawDescription) (p : Assembled) (lines : List Said) : Type 0 where
  pub labels : List LabelAt
  pub objects : List ObjectAt
  pub all_labels : IsPermutation p.labels labels
  pub all_objects : IsPermutation (numbered 0 p.symbols) objects
  pub label_order : AreBetween 0 (length p.lines) (map (label_stop p.names) labels)
  pub object_order : AreBetween d.base (d.base + length p.bytes) (map (object_stop p.names) objects)
  pub are : lines ≡ lines_for d p labels objects
