-- The labels of the text part, with the numbers of their instructions.
use Rattle.std.specs.Prelude.{◌≡◌, ℕ, ◌+◌, List, [], ◌∷◌, ◌++◌, Contains}
use Rattle.rtl_tree.specs.declared.c_names.Names.{Names}
use Rattle.rtl_tree.specs.declared.cells.Lab.{Lab}
use Rattle.rtl_value.specs.declared.state.LabelAt.{LabelAt}
use Rattle.md_rows.specs.declared.description.RawDescription.{RawDescription}
use Rattle.asm_program.specs.TextLines.{Label, Block, Symbol, Said, Others}
use Rattle.asm_program.specs.Programs.{IsLab}
use Rattle.asm_labels.specs.declared.saying.Said.{Said as Held}
use Rattle.asm_labels.specs.declared.saying.Said.TheVariants as held
use Rattle.asm_labels.specs.Seen.{label_of}
use Rattle.asm_names.specs.LabelNames.{AreNamesOf, IsSoundText}

-- this is the label, at this instruction
pub record IsAt (n : Names) (e : Label × ℕ) (l : LabelAt) : Type 0 where
  pub label : IsLab n e.0 l.label
  pub at : l.at ≡ e.1

-- a label's name has a number
abbrev pub HasNumber : Names → Label → Type 0
HasNumber n (Symbol s) = Contains n.functions s
HasNumber n (Block b) = Unit {0}

-- a text that keeps the rules, and its names
pub record IsTextOf (d : RawDescription) (n : Names) (text : List ℕ) (all : List Said) : Type 0 where
  pub sound : IsSoundText d text all
  pub names : AreNamesOf n all

abbrev pub HasNumberIn : Names → Held → Type 0
HasNumberIn n (held.Labelled l) = HasNumber n (label_of l)
HasNumberIn n _ = Unit {0}

-- a label that stands at an instruction is put behind others
pub record PutsLabel (n : Names) (l : Label) (at : ℕ) (old new : List LabelAt) : Type 0 where
  pub label : Lab
  pub is_label : IsLab n l label
  pub are : new ≡ old ++ record { label = label; at = at } ∷ []

abbrev pub AddsLabel : Names → Held → ℕ → List LabelAt → List LabelAt → Type 0
AddsLabel n (held.Labelled l) at old new = PutsLabel n (label_of l) at old new
AddsLabel n _ at old new = new ≡ old

-- the number of the instruction behind a line
abbrev pub counted : ℕ → Said → ℕ
counted n (Others ts) = n + 1
counted n _ = n
