-- The machine of an accepted description, as code with temporaries runs on it.
use Rattle.std.specs.Prelude.{◌≡◌, ◌≢◌, ℕ, true, List, All, AllPairs, Some}
use Rattle.md_rows.specs.declared.description.RawDescription.{RawDescription}
use Rattle.md_rows.specs.Fits.{is_in}
use Rattle.md_rows.specs.Instances.{general_set}
use Rattle.md_shapes.specs.Shapes.{Frame}
use Rattle.md_covers.specs.Covers.{frame_in}
use Rattle.md_check.specs.Checking.{IsChecked}
use Rattle.temp_machine.specs.Routines.{Target}
use Rattle.temp_machine.specs.Units.{IsTarget}

-- with the registers that a call keeps
abbrev pub target_of : RawDescription → Frame → List ℕ → Target
target_of d frame kept = record {
  word = d.word;
  memory = d.memory;
  base = d.base;
  stack = d.stack;
  sp = frame.stack;
  result = frame.result;
  link = frame.link;
  general = λ k. is_in (general_set d.registers) k;
  kept = kept;
}

-- is such as each pass may ask, where those that are kept are general and differ
abbrev pub TargetsAreSound : Type 0
TargetsAreSound =
    (w : ℕ) (d : RawDescription) (frame : Frame) (kept : List ℕ) → IsChecked w d → frame_in d ≡ Some frame
    → All (λ k. is_in (general_set d.registers) k ≡ true) kept → AllPairs (λ j k. j ≢ k) kept → IsTarget (target_of d frame kept)
