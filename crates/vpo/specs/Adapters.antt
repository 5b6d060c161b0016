-- How often the objects of the system were called, met the end and failed.
use Rattle.std.specs.Prelude.{ℕ}
use Rattle.vp_io.specs.Files.{FaultCounts}
use Rattle.vpo.specs.declared.input.InputStream.{InputStream}
use Rattle.vpo.specs.declared.output.OutputStream.{OutputStream}
use Rattle.vpo.specs.declared.file_system.FileSystem.{FileSystem}

-- how often a read has failed
abbrev pub input_faults : {R : Type 0} → InputStream R → ℕ
input_faults input = input.faults

-- how often a read has met the end
abbrev pub input_ends : {R : Type 0} → InputStream R → ℕ
input_ends input = input.ends

-- how often a write has failed
abbrev pub output_faults : {W : Type 0} → OutputStream W → ℕ
output_faults output = output.faults

-- how often a fetch has failed, which is told in all but by no name
abbrev pub file_faults : {R : Type 0} → FileSystem R → FaultCounts
file_faults files = record { total = files.faults; of = λ _. 0 }

-- how often a fetch was made
abbrev pub fetches : {R : Type 0} → FileSystem R → ℕ
fetches files = files.calls
