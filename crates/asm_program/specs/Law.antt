-- Laws of assembly texts.
use Rattle.std.specs.Prelude.{◌≡◌, ℕ, ◌-◌, ◌≤◌, List, [], codes}
use Rattle.rtl_tree.specs.Names.{AreNames}
use Rattle.rtl_tree.specs.declared.c_names.Names.{Names}
use Rattle.asm_row.specs.Readable.{IsReadable}
use Rattle.md_rows.specs.declared.description.RawDescription.{RawDescription}
use Rattle.asm_program.specs.declared.rules.Rule.{Rule}
use Rattle.asm_program.specs.declared.rules.Rule.TheVariants.{Misplaced}
use Rattle.asm_program.specs.TextLines.{Said, Says}
use Rattle.asm_program.specs.Rules.{AreSaid, IsSound, IsTold}
use Rattle.asm_program.specs.Programs.{Assembled, IsText, SameProgram}

-- a line says one thing
abbrev pub SaysOneThing : Type 0
SaysOneThing = (line : List ℕ) (s t : Said) → Says line s → Says line t → s ≡ t

-- a text of which a rule is told breaks it: it doesn't keep the rules
abbrev pub ToldIsUnsound : Type 0
ToldIsUnsound = (d : RawDescription) (text : List ℕ) (line : ℕ) (rule : Rule) (all : List Said) → IsTold d text line rule → AreSaid text all → IsSound d all → ⊥

-- as lists of names of a program are
pub record HaveNames (n : Names) : Type 0 where
  pub objects : AreNames n.objects
  pub functions : AreNames n.functions

-- where lines can be read, as those of an accepted description can, a text has at most one program
abbrev pub AtMostOneProgram : Type 0
AtMostOneProgram =
    (d : RawDescription) (text : List ℕ) (p q : Assembled) → IsReadable d → HaveNames p.names → HaveNames q.names → IsText d text p → IsText d text q → SameProgram p q

-- a program without instructions and data
abbrev pub nothing_assembled : Assembled
nothing_assembled = record { lines = []; labels = []; symbols = []; bytes = []; names = record { objects = []; functions = [] } }

-- `.text` alone is a text of it, and no bytes at all are no text
pub record AreExamples : Type 0 where
  pub text : (d : RawDescription) → d.base ≤ d.memory - d.stack → IsText d (codes ".text") nothing_assembled
  pub told : (d : RawDescription) → IsTold d [] 1 Misplaced
