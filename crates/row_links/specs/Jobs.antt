-- What linking a unit asks of its codes, and that its job is sound then.
use Rattle.std.specs.Prelude.{◌≡◌, ℕ, ◌<◌, ◌^◌, false, List, [], map, length, slice_get, Some, All}
use Rattle.rtl_tree.specs.declared.cells.Lab.TheVariants.{Function}
use Rattle.rtl_tree.specs.Moves.{Move}
use Rattle.rtl_effect.specs.Agree.{AllWithin}
use Rattle.md_rows.specs.declared.description.RawDescription.{RawDescription}
use Rattle.md_shapes.specs.declared.patterns.Pattern.TheVariants.{Call as CallShape}
use Rattle.md_shapes.specs.Shapes.{Frame, Open}
use Rattle.md_covers.specs.Covers.{general_bits, IsOpenOf, frame_in}
use Rattle.md_check.specs.Checking.{IsChecked}
use Rattle.temp_machine.specs.Cells.{has_temporaries}
use Rattle.temp_machine.specs.Units.{IsImage}
use Rattle.temp_code.specs.declared.code.Transfer.{Transfer}
use Rattle.temp_code.specs.declared.code.End.TheVariants.{Call}
use Rattle.temp_code.specs.declared.code.Block.{Block}
use Rattle.temp_code.specs.declared.code.Code.{Code}
use Rattle.temp_code.specs.declared.code.Unit.{Unit as Program}
use Rattle.temp_code.specs.Routines.{routine_of, image_of}
use Rattle.temp_code.specs.Realised.{AreRealised}
use Rattle.temp_shapes.specs.Elementary.{IsTransferOf}
use Rattle.temp_laws.specs.Targets.{target_of}
use Rattle.link_code.specs.Linked.{Job, program}
use Rattle.link_code.specs.Runs.{Stands, is_no_temporary}
use Rattle.link_code.specs.Sound.{IsSoundJob}
use Rattle.row_links.specs.Glue.{IsRowGlue}

-- a call's transfer is the machine's call of a function that is there
pub record IsCallOf (d : RawDescription) (frame : Frame) (order : List ℕ) (t : Transfer) : Type 0 where
  pub callee : ℕ
  pub there : Stands callee order
  pub at : Open
  pub label : at.label ≡ Function callee
  pub operands : IsOpenOf d.word (general_bits d.registers) CallShape at
  pub of_shape : IsTransferOf d frame CallShape at t

-- a code of instructions without temporaries
pub record IsLinkedCode (d : RawDescription) (frame : Frame) (order : List ℕ) (c : Code) : Type 0 where
  pub has_block : 0 < length c.blocks
  pub realised : AreRealised d c
  pub plain : has_temporaries (routine_of c) ≡ false
  pub calls : (k : ℕ) (b : Block) (t : Transfer) → slice_get c.blocks k ≡ Some b → b.end ≡ Call t → IsCallOf d frame order t

abbrev pub functions_of : Program → List ℕ
functions_of u = map (λ c. c.function) u.codes

-- a unit is linked for a machine on which a call keeps no register, its codes in their order
pub record IsUnitJob (d : RawDescription) (frame : Frame) (u : Program) (j : Job) : Type 0 where
  pub target : j.t ≡ target_of d frame []
  pub image : j.p ≡ image_of u
  pub order : j.order ≡ functions_of u
  pub glue : IsRowGlue d frame j.glue
  pub sound : IsImage (target_of d frame []) (image_of u)
  pub codes : All (IsLinkedCode d frame (functions_of u)) u.codes
  pub short : length (program j) < 2 ^ d.word

-- linking has what it asks
abbrev pub JobsAreSound : Type 0
JobsAreSound = (w : ℕ) (d : RawDescription) (frame : Frame) (u : Program) (j : Job) → IsChecked w d → frame_in d ≡ Some frame → IsUnitJob d frame u j → IsSoundJob j

-- and no temporary stands in a line
abbrev pub JobsAreFlat : Type 0
JobsAreFlat =
    (w : ℕ) (d : RawDescription) (frame : Frame) (u : Program) (j : Job) → IsChecked w d → frame_in d ≡ Some frame → IsUnitJob d frame u j
    → (k : ℕ) (ms : List Move) → slice_get (program j) k ≡ Some ms → AllWithin is_no_temporary ms
