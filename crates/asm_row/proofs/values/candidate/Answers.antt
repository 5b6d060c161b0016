use Rattle.std.proofs.Common.{rules, ap, ◌∙◌, arith, w64}
use Rattle.std.specs.Prelude.{unsigned_abs}
use Rattle.std.proofs.Math.Facts.{to_z-of_z}
use Rattle.std.proofs.lemmas.Grind.{common_steps}
use Rattle.asm_row.proofs.Words.{above}
use Rattle.asm_row.proofs.values.candidate.Goals as goal

pub returns-else-number-lt0 : goal.returns-else-number-lt0
returns-else-number-lt0 c =
    above c.args.bits c.args.number c.unsigned_abs-size.result c.word_above.result
    (c.unsigned_abs-size.ensures.value ∙ ap unsigned_abs (to_z-of_z {w = w64} {z = c.args.number} c.ranges.number))
    (first_of (search (rules, c.if-number-lt0.false), grind (arith, common_steps, c.if-number-lt0.false)))
    c.word_above.ensures
