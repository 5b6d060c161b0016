use Rattle.asm_print.proofs.Described.{checked_literals}
use Rattle.asm_print.proofs.Whole.{lines_text}
use Rattle.asm_print.proofs.law.lines_are_text.Goals as goal

pub returns : goal.returns
returns c w d p text checked assembled names fit laid =
    lines_text d p text (c.checked_is_readable.ensures w d checked) (checked_literals w d c.said_has_literals.ensures checked) assembled names fit laid
