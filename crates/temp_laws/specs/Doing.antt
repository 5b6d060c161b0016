-- Transfers of shapes do what the shapes do.
use Rattle.std.specs.Prelude.{◌≡◌, ℕ, Bool, true, false, None, Ok}
use Rattle.rtl_word.specs.declared.Rel.{Rel}
use Rattle.rtl_effect.specs.Views.{View}
use Rattle.rtl_effect.specs.Effects.{Done, effect}
use Rattle.rtl_norm_value.specs.Kept.{IsWordView}
use Rattle.rtl_norm_value.specs.Effect.{with_normal_jump}
use Rattle.md_rows.specs.declared.description.RawDescription.{RawDescription}
use Rattle.md_shapes.specs.declared.patterns.Pattern.{Pattern}
use Rattle.md_shapes.specs.declared.patterns.Pattern.TheVariants.{Jump, Branch, Compare, BranchByFlag, Call, Return}
use Rattle.md_shapes.specs.Shapes.{Frame, Open, shape_moves}
use Rattle.md_covers.specs.Covers.{general_bits, IsOpenOf}
use Rattle.md_check.specs.Checking.{IsChecked}
use Rattle.md_filled.specs.Doing.{IsSameBut, DoesAs}
use Rattle.temp_code.specs.declared.code.Transfer.{Transfer}
use Rattle.temp_shapes.specs.Elementary.{IsTransferOf}

-- of an accepted description, a transfer that is that of a shape does what the shape does; where it ends a block, the value of the program
-- counter is taken in its normal form
abbrev pub TransfersDoShapes : Type 0
TransfersDoShapes =
    (w : ℕ) (d : RawDescription) (frame : Frame) (pattern : Pattern) (at : Open) (t : Transfer) → IsChecked w d
    → IsOpenOf d.word (general_bits d.registers) pattern at → IsTransferOf d frame pattern at t
    → DoesAs d.word (shape_moves frame pattern at) (with_normal_jump d.word t.what)

-- whether a shape sets the program counter
abbrev pub ends_block : Pattern → Bool
ends_block Jump = true
ends_block (Branch r) = true
ends_block (BranchByFlag r j) = true
ends_block Call = true
ends_block Return = true
ends_block _ = false

-- in the body of a block it does so as it stands
abbrev pub BodiesDoShapes : Type 0
BodiesDoShapes =
    (w : ℕ) (d : RawDescription) (frame : Frame) (pattern : Pattern) (at : Open) (t : Transfer) → IsChecked w d
    → IsOpenOf d.word (general_bits d.registers) pattern at → IsTransferOf d frame pattern at t → ends_block pattern ≡ false
    → DoesAs d.word (shape_moves frame pattern at) t.what

-- a comparison and then a branch by its flag do what the branch on the two operands does
abbrev pub FlagBranchesDoBranches : Type 0
FlagBranchesDoBranches =
    (w : ℕ) (d : RawDescription) (frame : Frame) (r : Rel) (j : ℕ) (at : Open) (compares jumps : Transfer) → IsChecked w d
    → IsOpenOf d.word (general_bits d.registers) (Branch r) at
    → IsTransferOf d frame (Compare j) at compares → IsTransferOf d frame (BranchByFlag r j) at jumps
    → (v : View) (x : Done) → IsWordView d.word v → effect d.word (shape_moves frame (Branch r) at) v ≡ Ok x
    → (e f : Done) × (effect d.word compares.what v ≡ Ok e) × (effect d.word (with_normal_jump d.word jumps.what) e.view ≡ Ok f)
    × (e.output ≡ None) × (e.halt ≡ None) × IsSameBut (shape_moves frame (Branch r) at) x f
