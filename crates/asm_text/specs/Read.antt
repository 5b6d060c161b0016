-- What reading a text answers.
use Rattle.std.specs.Prelude.{◌≡◌, ℕ, List}
use Rattle.vp_io.specs.declared.answers.Reason.{Reason}
use Rattle.md_rows.specs.declared.description.RawDescription.{RawDescription}
use Rattle.asm_program.specs.declared.rules.Rule.{Rule}
use Rattle.asm_program.specs.TextLines.{Said}
use Rattle.asm_program.specs.Rules.{AreSaid, IsSound, IsTold, number_of}
use Rattle.asm_text.specs.declared.reading.AsmFault.{AsmFault}
use Rattle.asm_text.specs.declared.reading.AsmFault.TheVariants.{NoMemory, Bad}

-- a text that keeps the rules
abbrev pub KeepsRules : RawDescription → List ℕ → Type 0
KeepsRules d text = (all : List Said) × AreSaid text all × IsSound d all

-- the reason that tells of a rule at a line
abbrev pub reason_at : ℕ → Rule → Reason
reason_at line rule = record { line = line; column = 1; rule = number_of rule; detail = 0 }

-- the least line that breaks a rule, and there the least rule
abbrev pub IsCause : RawDescription → List ℕ → Reason → Type 0
IsCause d text r = (line : ℕ) × (rule : Rule) × IsTold d text line rule × r ≡ reason_at line rule

-- what is said of a line that breaks a rule
abbrev pub IsFaultAt : ℕ → Rule → AsmFault → Type 0
IsFaultAt line rule NoMemory = Unit {0}
IsFaultAt line rule (Bad r) = r ≡ reason_at line rule

-- what is said of a text that has no program
abbrev pub IsFaultOf : RawDescription → List ℕ → AsmFault → Type 0
IsFaultOf d text NoMemory = Unit {0}
IsFaultOf d text (Bad r) = IsCause d text r
