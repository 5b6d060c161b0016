use Rattle.std.proofs.Common.{List, ℕ, subst}
use Rattle.md_rows.specs.declared.description.RawDescription.{RawDescription}
use Rattle.asm_program.specs.declared.rules.Rule.{Rule}
use Rattle.asm_program.specs.TextLines.{Said}
use Rattle.asm_program.specs.Law.{SaysOneThing}
use Rattle.asm_program.specs.Rules.{AreSaid, IsSound, IsTold, IsBrokenAt, nothing, long_nothing, broken}
use Rattle.asm_program.specs.TextLines.{lines_of}
use Rattle.asm_program.proofs.Saying.{all_say_once}
use Rattle.asm_program.proofs.Walking.{told_unsound, blank_unsound}
use Rattle.asm_program.proofs.law.told_is_unsound.Goals as goal

unsound : SaysOneThing → (d : RawDescription) (text : List ℕ) (line : ℕ) (rule : Rule) (all : List Said) → IsTold d text line rule → AreSaid text all → IsSound d all → ⊥
unsound once d text line rule all (nothing e f) a sound = blank_unsound d all text e a sound
unsound once d text line rule all (long_nothing e f) a sound = blank_unsound d all text e a sound
unsound once d text line rule all (broken others n r e others_said b) a sound =
    told_unsound d all n r (subst (λ (xs : List Said). IsBrokenAt d xs n r) (all_say_once once (lines_of text) others all others_said a) b) sound

pub returns : goal.returns
returns c d text line rule all told a sound = unsound c.says_one_thing.ensures d text line rule all told a sound
