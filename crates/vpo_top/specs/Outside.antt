-- What lies outside the program at one moment: each object itself, and what it tells.
use Rattle.std.specs.Prelude.{ℕ, List, Option}
use Rattle.vp_io.specs.Files.{Told, FaultCounts}

-- the files under their names, and how often fetches of them have failed
pub record FilesSeen (F : Type 0) : Type 0 where
  pub object : F
  pub told : Told
  pub faults : FaultCounts

abbrev pub files_of : {F : Type 0} → (F → Told) → (F → FaultCounts) → F → FilesSeen F
files_of told faults files = record { object = files; told = told files; faults = faults files }

-- what is left to read, how often a read has failed, and how often one has met the end
pub record InputSeen (S : Type 0) : Type 0 where
  pub object : S
  pub left : Option (List ℕ)
  pub faults : ℕ
  pub ends : ℕ

abbrev pub input_of : {S : Type 0} → (S → Option (List ℕ)) → (S → ℕ) → (S → ℕ) → S → InputSeen S
input_of left faults ends input = record { object = input; left = left input; faults = faults input; ends = ends input }

-- what was written, and how often a write has failed
pub record SinkSeen (K : Type 0) : Type 0 where
  pub object : K
  pub written : Option (List ℕ)
  pub faults : ℕ

abbrev pub sink_of : {K : Type 0} → (K → Option (List ℕ)) → (K → ℕ) → K → SinkSeen K
sink_of written faults sink = record { object = sink; written = written sink; faults = faults sink }

pub record Outside (F S K E : Type 0) : Type 0 where
  pub files : FilesSeen F
  pub input : InputSeen S
  pub output : SinkSeen K
  pub errors : SinkSeen E
