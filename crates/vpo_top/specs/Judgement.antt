-- What an outcome says of the files, and of the output.
use Rattle.std.specs.Prelude.{◌≡◌, ◌⊎◌, ℕ, List, Some, None, ⊤}
use Rattle.vp_io.specs.Files.{Told}
use Rattle.vp_io.specs.declared.answers.Which.{Which}
use Rattle.vp_io.specs.declared.answers.Which.TheVariants.{Description, Text, Assembly, Input}
use Rattle.vp_io.specs.declared.answers.Outcome.{Outcome}
use Rattle.vp_io.specs.declared.answers.Outcome.TheVariants.{Done, NoMemory, BadWords, FileTooLong, BadDescription, BadSource, BadAssembly, ReadFault, WriteFault, Trapped, Spent}

-- the most bytes of a description, and of a source
abbrev pub byte_limit : ℕ
byte_limit = 1048576

-- a file is not fetched for want of memory, by a fault, or as too long
abbrev pub IsFetchRefusal : Which → Outcome → Type 0
IsFetchRefusal which outcome = (outcome ≡ NoMemory) ⊎ (outcome ≡ ReadFault which) ⊎ (outcome ≡ FileTooLong which)

-- nothing is written where this is the outcome
abbrev pub IsRefusal : Outcome → Type 0
IsRefusal NoMemory = ⊤
IsRefusal BadWords = ⊤
IsRefusal (FileTooLong which) = ⊤
IsRefusal (BadDescription reason) = ⊤
IsRefusal (BadSource reason) = ⊤
IsRefusal (BadAssembly reason) = ⊤
IsRefusal (ReadFault Description) = ⊤
IsRefusal (ReadFault Text) = ⊤
IsRefusal (ReadFault Assembly) = ⊤
IsRefusal (ReadFault Input) = ⊥
IsRefusal (Done status) = ⊥
IsRefusal WriteFault = ⊥
IsRefusal (Trapped kind place) = ⊥
IsRefusal (Spent turns) = ⊥

-- where files are told, those under these two names have P
abbrev pub OfFiles : Told → List ℕ → List ℕ → (List ℕ → List ℕ → Type 0) → Type 0
OfFiles None first second P = ⊤
OfFiles (Some files) first second P = P (files first) (files second)
