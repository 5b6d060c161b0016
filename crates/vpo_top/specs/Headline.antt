-- What a compilation writes to the output, from the bytes of the two files.
use Rattle.std.specs.Prelude.{ℕ, ◌≤◌, List, length, Option, ⊤}
use Rattle.std.specs.Io.KnownBytes.{Appends}
use Rattle.vp_io.specs.Contents.{AppendsPart}
use Rattle.vp_io.specs.declared.answers.Outcome.{Outcome}
use Rattle.vp_io.specs.declared.answers.Outcome.TheVariants.{Done, WriteFault}
use Rattle.cc_text.specs.Texts.{IsCompiledTo}
use Rattle.vpo_top.specs.Judgement.{byte_limit}
use Rattle.vpo_top.specs.Commands.{OfMachine}

-- the text is compiled from these two
abbrev pub IsTextOf : List ℕ → List ℕ → List ℕ → Type 0
IsTextOf description source text = (length source ≤ byte_limit) × OfMachine description (λ d. IsCompiledTo d source text)

-- a text that is compiled from these two was added to the output, some first bytes of it where the output failed
abbrev pub IsWritten : List ℕ → List ℕ → Option (List ℕ) → Option (List ℕ) → Outcome → Type 0
IsWritten description source old new (Done status) = (text : List ℕ) × IsTextOf description source text × Appends old new text
IsWritten description source old new WriteFault = (text : List ℕ) × IsTextOf description source text × AppendsPart old new text
IsWritten description source old new _ = ⊤
