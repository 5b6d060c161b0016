-- What files in memory tell.
use Rattle.std.specs.Prelude.{◌≡◌, ◌≢◌, ◌≤◌, ℕ, List, [], Bool, Option, find, option_map, unwrap_or, bytes_eq}
use Rattle.vp_io.specs.Counts.{next_count}
use Rattle.vp_io.specs.Files.{FaultCounts}
use Rattle.vp_io.specs.declared.memory_files.MemFile.{MemFile}
use Rattle.vp_io.specs.declared.memory_files.MemFiles.{MemFiles}
use Rattle.vp_io.specs.declared.memory_files.SafeFiles.{SafeFiles}

-- the entry has this name
abbrev pub has_name : List ℕ → MemFile → Bool
has_name name file = bytes_eq file.name.items name

-- the first entry of a name
abbrev pub entry_of : List MemFile → List ℕ → Option MemFile
entry_of entries name = find (has_name name) entries

-- the bytes under a name, none where no entry has it
abbrev pub bytes_of : List MemFile → List ℕ → List ℕ
bytes_of entries name = unwrap_or (option_map (λ file. file.bytes.items) (entry_of entries name)) []

-- the faults of a name
abbrev pub faults_of : List MemFile → List ℕ → ℕ
faults_of entries name = unwrap_or (option_map (λ file. file.faults) (entry_of entries name)) 0

-- a fault of this name was counted, and nothing else has changed
pub record CountsFault (name : List ℕ) (before now : List MemFile) : Type 0 where
  pub bytes : bytes_of now ≡ bytes_of before
  pub later : faults_of before name ≤ faults_of now name
  pub of_name : faults_of now name ≡ next_count (faults_of before name)
  pub others : (other : List ℕ) → other ≢ name → faults_of now other ≡ faults_of before other

-- the bytes under each name
abbrev pub told_files : MemFiles → List ℕ → List ℕ
told_files files = bytes_of files.entries.items

-- how often a fetch has failed
abbrev pub file_faults : MemFiles → FaultCounts
file_faults files = record { total = files.failing.faults; of = faults_of files.entries.items }

-- how often a fetch was made
abbrev pub fetches : MemFiles → ℕ
fetches files = files.calls

abbrev pub safe_files : SafeFiles → List ℕ → List ℕ
safe_files files = bytes_of files.entries.items

abbrev pub safe_fetches : SafeFiles → ℕ
safe_fetches files = files.calls

-- no fetch has failed
abbrev pub no_faults : FaultCounts
no_faults = record { total = 0; of = λ _. 0 }
