-- The line on the error stream for each outcome.
use Rattle.std.specs.Prelude.{◌≡◌, ◌⊎◌, ℕ, List, [], ◌∷◌, ◌++◌, Option, codes, decimal}
use Rattle.std.specs.Io.KnownBytes.{Appends}
use Rattle.vp_io.specs.Contents.{AppendsPart}
use Rattle.vp_io.specs.Counts.{Rose}
use Rattle.vpo_top.specs.Outside.{SinkSeen}
use Rattle.vp_io.specs.declared.answers.Which.{Which}
use Rattle.vp_io.specs.declared.answers.Which.TheVariants.{Description, Text, Assembly, Input}
use Rattle.vp_io.specs.declared.answers.Outcome.{Outcome}
use Rattle.vp_io.specs.declared.answers.Outcome.TheVariants.{Done, NoMemory, BadWords, FileTooLong, BadDescription, BadSource, BadAssembly, ReadFault, WriteFault, Trapped, Spent}

abbrev pub input_name : Which → List ℕ
input_name Description = codes "description"
input_name Text = codes "source"
input_name Assembly = codes "assembly"
input_name Input = codes "input"

-- what is said of an outcome, without the line feed; nothing is said of one that is as asked
abbrev pub complaint : Outcome → List ℕ
complaint (Done status) = []
complaint NoMemory = codes "no memory"
complaint BadWords = codes "bad words"
complaint (FileTooLong which) = codes "file too long: " ++ input_name which
complaint (BadDescription r) =
    codes "description line " ++ (decimal r.line ++ (codes ": rule " ++ (decimal r.rule ++ (codes " (" ++ (decimal r.detail ++ codes ")")))))
complaint (BadSource r) = codes "source line " ++ (decimal r.line ++ (codes " column " ++ (decimal r.column ++ (codes ": rule " ++ decimal r.rule))))
complaint (BadAssembly r) = codes "assembly line " ++ (decimal r.line ++ (codes ": rule " ++ decimal r.rule))
complaint (ReadFault which) = codes "read fault: " ++ input_name which
complaint WriteFault = codes "write fault"
complaint (Trapped kind place) = codes "trap " ++ (decimal kind ++ (codes " at " ++ decimal place))
complaint (Spent steps) = decimal steps ++ codes " steps spent"

-- the whole line
abbrev pub message : Outcome → List ℕ
message outcome = codes "vpo: " ++ (complaint outcome ++ 10 ∷ [])

-- this line was written whole, or, where the stream failed, some first bytes of it
abbrev pub IsLineWritten : List ℕ → Option (List ℕ) → Option (List ℕ) → ℕ → ℕ → Type 0
IsLineWritten line old new before now = Appends old new line ⊎ (AppendsPart old new line × Rose before now)

-- what is written to the error stream: nothing where all is as asked, else the line of the outcome
abbrev pub IsReported : {E : Type 0} → Outcome → SinkSeen E → SinkSeen E → Type 0
IsReported (Done status) old new = new ≡ old
IsReported outcome old new = IsLineWritten (message outcome) old.written new.written old.faults new.faults
