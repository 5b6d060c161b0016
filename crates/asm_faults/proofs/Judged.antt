-- What is told of a text whose lines were walked.
use Rattle.std.proofs.Common.{◌≡◌, ℕ, false, List, Option, Some, None, Result, Ok, Err}
use Rattle.std.specs.Prelude.{IfOk}
use Rattle.rtl_tree.specs.declared.memory.NoMemory.{NoMemory}
use Rattle.md_rows.specs.declared.description.RawDescription.{RawDescription}
use Rattle.asm_program.specs.declared.rules.Rule.{Rule}
use Rattle.asm_program.specs.TextLines.{Said}
use Rattle.asm_program.specs.Rules.{AreSaid, broken, is_blank}
use Rattle.asm_labels.specs.Tables.{AreLabels, AreLabelsOf}
use Rattle.asm_labels.specs.declared.labels.Labels.{Labels}
use Rattle.asm_faults.specs.Checks.{IsJudged, IsWalked}
use Rattle.asm_faults.proofs.Blank.{sound}

module _ (d : RawDescription) (text : List ℕ) (labels : Labels) (e : is_blank text ≡ false) (l : AreLabelsOf text labels) where
  judged_by : (told : Option (ℕ × Rule)) → ((all : List Said) → AreSaid text all → AreLabels all labels → IsWalked d all told) → IsJudged d text told
  judged_by None h = let w = h l.all l.said l.each in (l.all, l.said, sound d l.all text e l.said w.0 w.1)
  judged_by (Some told) h = broken l.all told.0 told.1 e l.said (h l.all l.said l.each)

  pub judged : (r : Result (Option (ℕ × Rule)) NoMemory) → IfOk r (λ told. (all : List Said) → AreSaid text all → AreLabels all labels → IsWalked d all told) → IfOk r (λ told. IsJudged d text told)
  judged (Ok told) h = judged_by told h
  judged (Err x) h = tt
