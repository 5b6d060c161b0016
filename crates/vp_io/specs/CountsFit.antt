-- The counts of files in memory have 64 bits.
use Rattle.std.proofs.Common.{◌<◌, ◌^◌, Option, Some, None, option_map, lit<}
use Rattle.std.specs.Prelude.{unwrap_or}
use Rattle.vp_io.specs.declared.memory_files.MemFile.{MemFile}
use Rattle.vp_io.specs.declared.memory_files.MemFiles.{MemFiles}
use Rattle.vp_io.specs.declared.memory_files.SafeFiles.{SafeFiles}
use Rattle.vp_io.specs.Files.{CountsFit}
use Rattle.vp_io.specs.MemoryFiles.{entry_of, file_faults, fetches, no_faults, safe_fetches}

entry_fits : (found : Option MemFile) → unwrap_or (option_map (λ file. file.faults) found) 0 < 2 ^ 64
entry_fits None = lit< tt
entry_fits (Some file) = file.faults_fit

pub file_counts_fit : (files : MemFiles) → CountsFit (file_faults files) (fetches files)
file_counts_fit files = record { total = files.failing.faults_fit; of = λ name. entry_fits (entry_of files.entries.items name); calls_fit = files.calls_fit }

pub safe_counts_fit : (files : SafeFiles) → CountsFit no_faults (safe_fetches files)
safe_counts_fit files = record { total = lit< tt; of = λ name. lit< tt; calls_fit = files.calls_fit }
