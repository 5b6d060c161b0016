-- Where the transfers of jumps, branches and calls go.
use Rattle.std.specs.Prelude.{◌≡◌, ℕ, Some}
use Rattle.rtl_word.specs.declared.Rel.{Rel}
use Rattle.rtl_tree.specs.declared.cells.Cell.TheVariants.{Pc}
use Rattle.rtl_tree.specs.declared.cells.Lab.TheVariants.{Block, Function}
use Rattle.rtl_tree.specs.Trees.{CodeLabel}
use Rattle.rtl_effect.specs.Effects.{assigned}
use Rattle.rtl_norm_value.specs.Effect.{with_normal_jump}
use Rattle.md_rows.specs.declared.description.RawDescription.{RawDescription}
use Rattle.md_shapes.specs.declared.patterns.Pattern.TheVariants.{Jump, Branch, BranchByFlag, Call}
use Rattle.md_shapes.specs.Shapes.{Frame, Open}
use Rattle.md_check.specs.Checking.{IsChecked}
use Rattle.temp_machine.specs.Machine.{callee_of}
use Rattle.temp_machine.specs.Flow.{label_of}
use Rattle.temp_code.specs.declared.code.Transfer.{Transfer}
use Rattle.temp_shapes.specs.Elementary.{IsTransferOf}

-- a jump goes to its label
abbrev pub JumpsGo : Type 0
JumpsGo =
    (w : ℕ) (d : RawDescription) (frame : Frame) (at : Open) (t : Transfer) → IsChecked w d → IsTransferOf d frame Jump at t
    → assigned (with_normal_jump d.word t.what) Pc ≡ Some (CodeLabel at.label)

-- a branch goes to its label, be it on two operands or on a flag
abbrev pub BranchesGo : Type 0
BranchesGo =
    (w : ℕ) (d : RawDescription) (frame : Frame) (r : Rel) (at : Open) (t : Transfer) (l : ℕ) → IsChecked w d → IsTransferOf d frame (Branch r) at t
    → at.label ≡ Block l → label_of d.word t.what ≡ Some l

abbrev pub FlagBranchesGo : Type 0
FlagBranchesGo =
    (w : ℕ) (d : RawDescription) (frame : Frame) (r : Rel) (j : ℕ) (at : Open) (t : Transfer) (l : ℕ) → IsChecked w d
    → IsTransferOf d frame (BranchByFlag r j) at t → at.label ≡ Block l → label_of d.word t.what ≡ Some l

-- a call goes to its function
abbrev pub CallsGo : Type 0
CallsGo =
    (w : ℕ) (d : RawDescription) (frame : Frame) (at : Open) (t : Transfer) (f : ℕ) → IsChecked w d → IsTransferOf d frame Call at t
    → at.label ≡ Function f → callee_of d.word t.what ≡ Some f
