-- Naive code obeys the rule of homes.
use Rattle.std.specs.Prelude.{◌≡◌, ◌≤◌, ℕ, List, All}
use Rattle.md_rows.specs.declared.description.RawDescription.{RawDescription}
use Rattle.md_shapes.specs.Shapes.{Frame}
use Rattle.md_check.specs.Checking.{IsChecked}
use Rattle.c_tree.specs.declared.typed.Function.{Function}
use Rattle.c_tree.specs.declared.typed.Typed.{Typed}
use Rattle.temp_machine.specs.Live.{ObeysHomes, reserve_homes}
use Rattle.temp_code.specs.declared.code.Code.{Code}
use Rattle.temp_code.specs.Routines.{routine_of}
use Rattle.temp_laws.specs.Targets.{target_of}
use Rattle.naive_code.specs.Functions.{function_ops, function_homes}
use Rattle.naive_builder.specs.Appending.{Emitted, begun, Appends}
use Rattle.naive_builder.specs.Finished.{finished}
use Rattle.naive_live.specs.Function.{IsSoundFunction}

-- the code of a sound function, built from one empty block on: temporaries that are live at once have different homes
abbrev pub HomesAreObeyed : Type 0
HomesAreObeyed =
    (w : ℕ) (d : RawDescription) (frame : Frame) (kept : List ℕ) (pushed : ℕ) (source : Typed) (f : Function) (label : ℕ) (s : Emitted) (c : Code)
    → IsChecked w d → IsSoundFunction kept d.word source f → Appends d frame (begun label) (function_ops kept d.word pushed source f label) s
    → c.blocks ≡ finished s → c.homes ≡ function_homes kept d.word source f → ObeysHomes (target_of d frame kept) (routine_of c)

-- none has one of those that are in reserve
abbrev pub NoneIsReserve : Type 0
NoneIsReserve = (kept : List ℕ) (w : ℕ) (source : Typed) (f : Function) → All (λ h. reserve_homes ≤ h) (function_homes kept w source f)
