-- What each outcome of a compilation says of the two files.
use Rattle.std.specs.Prelude.{◌≡◌, ℕ, ◌<◌, ◌≤◌, List, length, ⊤}
use Rattle.vp_io.specs.declared.answers.Reason.{Reason}
use Rattle.vp_io.specs.declared.answers.Which.TheVariants.{Text}
use Rattle.vp_io.specs.declared.answers.Outcome.{Outcome}
use Rattle.vp_io.specs.declared.answers.Outcome.TheVariants.{Done, FileTooLong, BadSource, ReadFault, WriteFault}
use Rattle.cc_text.specs.Sources.{IsAccepted, IsRefusedFor}
use Rattle.vpo_top.specs.Judgement.{byte_limit}
use Rattle.vpo_top.specs.Commands.{OfMachine, IsAcceptedMachine, JudgesCheck, IsRefusalOfCheck}

-- the bytes are short enough, and a source that is accepted for the machine
abbrev pub IsCompilable : List ℕ → List ℕ → Type 0
IsCompilable description source = (length source ≤ byte_limit) × OfMachine description (λ d. IsAccepted d source)

-- the bytes are short enough, but no source that is accepted for the machine, for this reason
abbrev pub IsNotCompilable : List ℕ → List ℕ → Reason → Type 0
IsNotCompilable description source reason = (length source ≤ byte_limit) × OfMachine description (λ d. IsRefusedFor d source reason)

-- where each outcome of a compilation comes, for what the two files hold: a description is judged before a source, and but for want of
-- memory and faults of the outside, just one outcome fits
abbrev pub JudgesCompilation : List ℕ → List ℕ → Outcome → Type 0
JudgesCompilation description source (Done status) = (status ≡ 0) × IsCompilable description source
JudgesCompilation description source WriteFault = IsCompilable description source
JudgesCompilation description source (ReadFault Text) = IsAcceptedMachine description
JudgesCompilation description source (FileTooLong Text) = IsAcceptedMachine description × (byte_limit < length source)
JudgesCompilation description source (BadSource reason) = IsNotCompilable description source reason
JudgesCompilation description source outcome = JudgesCheck description outcome

-- the outcomes of a compilation that writes nothing
abbrev pub IsRefusalOfCompilation : Outcome → Type 0
IsRefusalOfCompilation (ReadFault Text) = ⊤
IsRefusalOfCompilation (FileTooLong Text) = ⊤
IsRefusalOfCompilation (BadSource reason) = ⊤
IsRefusalOfCompilation outcome = IsRefusalOfCheck outcome

-- the outcomes that a compilation has, whatever is outside
abbrev pub IsOfCompilation : Outcome → Type 0
IsOfCompilation (Done status) = status ≡ 0
IsOfCompilation WriteFault = ⊤
IsOfCompilation outcome = IsRefusalOfCompilation outcome
