-- What each outcome of a check says of the file, and what is written of a machine that is shown.
use Rattle.std.specs.Prelude.{◌≡◌, ℕ, ◌<◌, ◌≤◌, List, length, Option, ⊤}
use Rattle.std.specs.Io.KnownBytes.{Appends}
use Rattle.vp_io.specs.Contents.{AppendsPart}
use Rattle.vp_io.specs.declared.answers.Which.TheVariants.{Description}
use Rattle.vp_io.specs.declared.answers.Outcome.{Outcome}
use Rattle.vp_io.specs.declared.answers.Outcome.TheVariants.{Done, NoMemory, FileTooLong, BadDescription, ReadFault, WriteFault}
use Rattle.md_rows.specs.declared.description.RawDescription.{RawDescription}
use Rattle.md_check.specs.Accepted.{IsAcceptedText, IsRefusedText, normalised}
use Rattle.md_verdict.specs.declared.accepted.Accepted.{Accepted}
use Rattle.md_verdict.specs.Verdict.{IsAcceptedAs}
use Rattle.md_verdict.specs.Line.{verdict_line_of}
use Rattle.shipped.specs.declared.Shipped.{Shipped}
use Rattle.shipped.specs.Shipped.{text_of}
use Rattle.vpo_top.specs.Judgement.{byte_limit}

-- the bytes are short enough, and a description that is accepted
abbrev pub IsAcceptedMachine : List ℕ → Type 0
IsAcceptedMachine text = (length text ≤ byte_limit) × ((d : RawDescription) × IsAcceptedText text d)

-- a description is accepted, and what it says has P
abbrev pub OfMachine : List ℕ → (RawDescription → Type 0) → Type 0
OfMachine description P = (length description ≤ byte_limit) × ((d : RawDescription) × IsAcceptedText description d × P (normalised d))

-- the bytes are short enough, and accepted as this description
abbrev pub IsMachineOf : List ℕ → Accepted → Type 0
IsMachineOf text machine = (length text ≤ byte_limit) × IsAcceptedAs text machine

-- where each outcome of a check comes, for what the file holds: but for want of memory and faults of the outside, just one fits
abbrev pub JudgesCheck : List ℕ → Outcome → Type 0
JudgesCheck text (Done status) = (status ≡ 0) × IsAcceptedMachine text
JudgesCheck text WriteFault = IsAcceptedMachine text
JudgesCheck text NoMemory = ⊤
JudgesCheck text (ReadFault Description) = ⊤
JudgesCheck text (FileTooLong Description) = byte_limit < length text
JudgesCheck text (BadDescription reason) =
    (length text ≤ byte_limit) × (reason.column ≡ 1) × IsRefusedText text reason.line reason.rule reason.detail
JudgesCheck text _ = ⊥

-- the outcomes of a check that writes nothing
abbrev pub IsRefusalOfCheck : Outcome → Type 0
IsRefusalOfCheck NoMemory = ⊤
IsRefusalOfCheck (ReadFault Description) = ⊤
IsRefusalOfCheck (FileTooLong Description) = ⊤
IsRefusalOfCheck (BadDescription reason) = ⊤
IsRefusalOfCheck _ = ⊥

-- the outcomes that a check has, whatever is outside
abbrev pub IsOfCheck : Outcome → Type 0
IsOfCheck (Done status) = status ≡ 0
IsOfCheck WriteFault = ⊤
IsOfCheck outcome = IsRefusalOfCheck outcome

-- this is the line that is written of the text
abbrev pub IsVerdictOn : List ℕ → List ℕ → Type 0
IsVerdictOn text line = (d : RawDescription) × IsAcceptedText text d × (line ≡ verdict_line_of d)

-- for an accepted text its verdict was added to the output, some first bytes of it where the output failed
abbrev pub IsVerdictWritten : List ℕ → Option (List ℕ) → Option (List ℕ) → Outcome → Type 0
IsVerdictWritten text old new (Done status) = (d : RawDescription) × IsAcceptedText text d × Appends old new (verdict_line_of d)
IsVerdictWritten text old new WriteFault = (d : RawDescription) × IsAcceptedText text d × AppendsPart old new (verdict_line_of d)
IsVerdictWritten text old new _ = ⊤

-- the machine's description was added to the output, some first bytes of it where the output failed; nothing is fetched and no memory
-- is taken, so no other outcome comes
abbrev pub IsShown : Shipped → Option (List ℕ) → Option (List ℕ) → Outcome → Type 0
IsShown machine old new (Done status) = (status ≡ 0) × Appends old new (text_of machine)
IsShown machine old new WriteFault = AppendsPart old new (text_of machine)
IsShown machine old new _ = ⊥
