-- The exit codes of the outcomes.
use Rattle.std.specs.Prelude.{ℕ}
use Rattle.vp_io.specs.declared.answers.Outcome.{Outcome}
use Rattle.vp_io.specs.declared.answers.Outcome.TheVariants.{Done, NoMemory, BadWords, FileTooLong, BadDescription, BadSource, BadAssembly, ReadFault, WriteFault, Trapped, Spent}

-- the code that a process ends with
abbrev pub exit_code : Outcome → ℕ
exit_code (Done status) = status
exit_code NoMemory = 70
exit_code BadWords = 64
exit_code (FileTooLong which) = 65
exit_code (BadDescription reason) = 66
exit_code (BadSource reason) = 67
exit_code (BadAssembly reason) = 68
exit_code (ReadFault which) = 71
exit_code WriteFault = 72
exit_code (Trapped kind place) = 73
exit_code (Spent turns) = 74
