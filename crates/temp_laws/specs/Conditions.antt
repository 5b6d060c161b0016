-- What the conditions of code ask of a transfer of a shape on temporaries.
use Rattle.std.specs.Prelude.{◌≡◌, ◌⊎◌, ℕ, ◌==◌, Bool, true, false, List, Some}
use Rattle.rtl_tree.specs.declared.cells.Cell.TheVariants.{Hard, Temp, Flag, Pc}
use Rattle.rtl_tree.specs.declared.cells.Lab.{Lab}
use Rattle.rtl_tree.specs.Moves.{Move}
use Rattle.rtl_tree.specs.Same.{same_cell}
use Rattle.md_rows.specs.declared.description.RawDescription.{RawDescription}
use Rattle.md_rows.specs.Fits.{is_in}
use Rattle.md_rows.specs.Instances.{general_set}
use Rattle.md_shapes.specs.declared.patterns.Pattern.{Pattern}
use Rattle.md_shapes.specs.declared.patterns.Pattern.TheVariants.{MoveStack, SetStack, BranchByFlag, Call, Return}
use Rattle.md_shapes.specs.Shapes.{Frame, Open}
use Rattle.md_covers.specs.Covers.{frame_in}
use Rattle.md_check.specs.Checking.{IsChecked}
use Rattle.temp_machine.specs.Cells.{sets, reads, mentions, is_hard_among}
use Rattle.temp_machine.specs.Tidy.{sets_temporary, room_of}
use Rattle.temp_code.specs.declared.code.Transfer.{Transfer}
use Rattle.temp_shapes.specs.Elementary.{IsTransferOf}
use Rattle.temp_laws.specs.Doing.{ends_block}

abbrev pub on_temporaries : ℕ → ℕ → ℕ → ℕ → Lab → Open
on_temporaries a b number symbol label = record { a = Temp a; b = Temp b; number = number; symbol = symbol; label = label }

abbrev pub moves_stack : Pattern → Bool
moves_stack MoveStack = true
moves_stack SetStack = true
moves_stack Call = true
moves_stack Return = true
moves_stack _ = false

abbrev pub reads_flag : ℕ → Pattern → Bool
reads_flag n (BranchByFlag r j) = n == j
reads_flag n _ = false

-- in the body of a block it doesn't set the program counter, and at its end no temporary; few shapes move the stack; it names no general
-- register, and no temporaries but the two, so it has the least room; and it reads no flag but that of a branch
pub record KeepsConditions (d : RawDescription) (frame : Frame) (pattern : Pattern) (a b : ℕ) (ms : List Move) : Type 0 where
  pub counter : ends_block pattern ≡ false → sets Pc ms ≡ false
  pub ends : ends_block pattern ≡ true → sets_temporary ms ≡ false
  pub stack : moves_stack pattern ≡ false → sets (Hard frame.stack) ms ≡ false
  pub general : mentions (is_hard_among (λ k. is_in (general_set d.registers) k)) ms ≡ false
  pub temporaries : (n : ℕ) → mentions (same_cell (Temp n)) ms ≡ true → (n ≡ a) ⊎ (n ≡ b)
  pub flags : (n : ℕ) → reads_flag n pattern ≡ false → reads (Flag n) ms ≡ false
  pub room : room_of ms ≡ 5

abbrev pub ConditionsAreKept : Type 0
ConditionsAreKept =
    (w : ℕ) (d : RawDescription) (frame : Frame) (pattern : Pattern) (a b number symbol : ℕ) (label : Lab) (t : Transfer) → IsChecked w d
    → frame_in d ≡ Some frame → IsTransferOf d frame pattern (on_temporaries a b number symbol label) t
    → KeepsConditions d frame pattern a b t.what
