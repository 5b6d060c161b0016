-- What a run of an assembly text on an accepted machine comes to.
use Rattle.std.specs.Prelude.{ℕ, List, Option}
use Rattle.std.specs.Io.KnownBytes.{Consumes}
use Rattle.md_rows.specs.declared.description.RawDescription.{RawDescription}
use Rattle.asm_program.specs.Programs.{Assembled, IsText}
use Rattle.machine_step.specs.declared.running.Stop.{Stop}
use Rattle.rtl_machine.specs.Loading.{code_of}
use Rattle.rtl_machine.specs.Whole.{RunsTo, IsAllLeft}

-- the bytes are an assembly text of the machine
abbrev pub IsAssemblyText : RawDescription → List ℕ → Type 0
IsAssemblyText d text = (p : Assembled) × IsText d text p

-- the program of the text, on all that an input has left, comes within so many steps to this stop, with what was written by then
pub record TextRunsTo (d : RawDescription) (text : List ℕ) (left : Option (List ℕ)) (steps : ℕ) (old new : Option (List ℕ)) (stop : Stop) : Type 0 where
  pub program : Assembled
  pub is_text : IsText d text program
  pub input : List ℕ
  pub all : IsAllLeft left input
  pub runs : RunsTo (code_of d program) input steps old new stop

-- some first bytes are taken
abbrev pub TakesSome : Option (List ℕ) → Option (List ℕ) → Type 0
TakesSome left left' = (bytes : List ℕ) × Consumes left left' bytes
