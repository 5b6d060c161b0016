use Rattle.md_check.proofs.Telling.{checked_rows}
use Rattle.md_check.proofs.checked.operators.Goals as goal

pub operators_in-requires-clause-rows : goal.operators_in-requires-clause-rows
operators_in-requires-clause-rows g c = checked_rows g.W.Word.BITS c.raw.result.now c.said_is_sound.ensures c.raw.ensures.checked
