-- When an instance does a transfer, and which instance is the first that does it.
use Rattle.std.specs.Prelude.{◌≡◌, ◌<◌, Bool, false, List}
use Rattle.rtl_tree.specs.Moves.{Goal, ToCell, Move}
use Rattle.rtl_tree.specs.declared.cells.Cell.TheVariants.{Flag}
use Rattle.rtl_tree.specs.Sets.{CellBits, has_cell}
use Rattle.md_rows.specs.declared.description.RawDescription.{RawDescription}
use Rattle.md_rows.specs.declared.row.Row.{Row}
use Rattle.md_rows.specs.declared.instance.Instance.{Instance}
use Rattle.md_rows.specs.Instances.{IsInstance, general_set}
use Rattle.md_match.specs.Searches.{Marks, no_marks}
use Rattle.md_match.specs.Does.{Does}
use Rattle.recogniser.specs.Choices.{Choice, Earlier, TakesBy}

-- whether a place is a flag that is dead
abbrev pub is_dead_flag : CellBits → Goal → Bool
is_dead_flag dead (ToCell (Flag k)) = has_cell dead (Flag k)
is_dead_flag dead _ = false

-- An instance of a description does a transfer, with these cells dead: each assignment of the transfer is alike one of its row's normal
-- form, filled, each to another, which are marked; the others are to flags that are dead, and trap only where a marked one does; and
-- every hole is bound by a marked one. The normal form is that of the row, and not taken again once it is filled.
pub record DoesTransfer (d : RawDescription) (dead : CellBits) (es : List Move) (i : Instance) : Type 0 where
  pub row : Row
  pub instance : IsInstance d i row
  pub marks : Marks
  pub does : Does d.word (general_set d.registers) row.holes (λ r. is_dead_flag dead r.to) row.normal es i.binding marks

-- it does so by a list of choices
pub record DoesBy (d : RawDescription) (dead : CellBits) (es : List Move) (i : Instance) (choices : List Choice) : Type 0 where
  pub row : Row
  pub instance : IsInstance d i row
  pub marks : Marks
  pub does : Does d.word (general_set d.registers) row.holes (λ r. is_dead_flag dead r.to) row.normal es i.binding marks
  pub by : TakesBy row.normal i.binding no_marks es choices marks

-- the first instance that does a transfer: no earlier row does it, and no earlier list of choices makes its row do it
pub record IsFirst (d : RawDescription) (dead : CellBits) (es : List Move) (i : Instance) : Type 0 where
  pub choices : List Choice
  pub does : DoesBy d dead es i choices
  pub first_row : (j : Instance) → j.row < i.row → DoesTransfer d dead es j → ⊥
  pub first_choices : (j : Instance) (cs : List Choice) → j.row ≡ i.row → DoesBy d dead es j cs → Earlier cs choices → ⊥
