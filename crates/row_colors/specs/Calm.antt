-- What a transfer assigns to flags that nobody wants traps only where the rest of it does.
use Rattle.std.specs.Prelude.{◌≡◌, ◌⊎◌, ℕ, Bool, true, false, List, slice_get, Some, Ok}
use Rattle.rtl_tree.specs.declared.cells.Cell.TheVariants.{Pc}
use Rattle.rtl_tree.specs.Moves.{ToCell, Move}
use Rattle.rtl_effect.specs.Views.{View}
use Rattle.rtl_effect.specs.Effects.{tested}
use Rattle.rtl_norm_value.specs.Kept.{IsWordView}
use Rattle.rtl_norm_value.specs.Effect.{with_normal_jump}
use Rattle.md_rows.specs.declared.description.RawDescription.{RawDescription}
use Rattle.md_rows.specs.declared.row.Row.{Row}
use Rattle.md_rows.specs.Instances.{IsInstance, effects_with, general_set}
use Rattle.md_match.specs.Searches.{Marks, is_flag_of}
use Rattle.md_match.specs.Does.{Does, AllTraps}
use Rattle.md_shapes.specs.declared.patterns.Pattern.{Pattern}
use Rattle.md_shapes.specs.Shapes.{Frame, Open}
use Rattle.md_covers.specs.Covers.{general_bits, IsOpenOf}
use Rattle.md_check.specs.Checking.{IsChecked}
use Rattle.md_filled.specs.Doing.{IsNumberless, DoesAs}
use Rattle.temp_code.specs.declared.code.Transfer.{Transfer}
use Rattle.temp_shapes.specs.Elementary.{IsTransferOf}
use Rattle.temp_laws.specs.Doing.{ends_block}
use Rattle.color_cores.specs.Cores.{is_wanted, core}
use Rattle.color_renaming.specs.Renaming.{with_registers}

-- where the assignments but those to unwanted flags can be made, all can
abbrev pub IsCalm : ℕ → (ℕ → Bool) → List Move → Type 0
IsCalm w wanted ms = (v : View) → IsWordView w v → tested w (core wanted ms) v ≡ Ok tt → tested w ms v ≡ Ok tt

-- so a calm transfer does as its core does, with registers for its temporaries, too
abbrev pub CalmDoes : Type 0
CalmDoes =
    (w : ℕ) (wanted : ℕ → Bool) (register : ℕ → ℕ) (ms : List Move) → IsCalm w wanted ms
    → DoesAs w (with_registers register (core wanted ms)) (with_registers register ms)

-- a row does a transfer with a binding, its other assignments being idle
pub record IsDoneBy (d : RawDescription) (idle : Move → Bool) (es : List Move) (t : Transfer) : Type 0 where
  pub row : Row
  pub instance : IsInstance d t.by row
  pub effects : t.what ≡ effects_with row t.by.binding
  pub marks : Marks
  pub does : Does d.word (general_set d.registers) row.holes idle row.normal es t.by.binding marks

-- each assignment is to a place that is wanted, or nothing in it can trap; and no number says where it jumps
pub record IsSafe (wanted : ℕ → Bool) (es : List Move) : Type 0 where
  pub each : (i : ℕ) (m : Move) → slice_get es i ≡ Some m → (is_wanted wanted m.to ≡ true) ⊎ AllTraps (λ x. ⊥) m.value
  pub jump : (i : ℕ) (m : Move) → slice_get es i ≡ Some m → m.to ≡ ToCell Pc → IsNumberless m.value

-- such a transfer is calm where the idle assignments are to flags; in code the value of the program counter is taken in its normal form
abbrev pub RowsAreCalm : Type 0
RowsAreCalm =
    (w : ℕ) (d : RawDescription) (idle : Move → Bool) (es : List Move) (t : Transfer) (wanted : ℕ → Bool) → IsChecked w d
    → IsDoneBy d idle es t → ((r : Move) → idle r ≡ true → is_flag_of 255 r.to ≡ true) → IsSafe wanted es
    → IsCalm d.word wanted (with_normal_jump d.word t.what)

-- the transfers of shapes are, whatever flags are wanted
abbrev pub ShapesAreCalm : Type 0
ShapesAreCalm =
    (w : ℕ) (d : RawDescription) (frame : Frame) (pattern : Pattern) (at : Open) (t : Transfer) (wanted : ℕ → Bool) → IsChecked w d
    → IsOpenOf d.word (general_bits d.registers) pattern at → IsTransferOf d frame pattern at t → IsCalm d.word wanted (with_normal_jump d.word t.what)

-- in the body of a block as they stand
abbrev pub BodiesAreCalm : Type 0
BodiesAreCalm =
    (w : ℕ) (d : RawDescription) (frame : Frame) (pattern : Pattern) (at : Open) (t : Transfer) (wanted : ℕ → Bool) → IsChecked w d
    → IsOpenOf d.word (general_bits d.registers) pattern at → IsTransferOf d frame pattern at t → ends_block pattern ≡ false
    → IsCalm d.word wanted t.what
