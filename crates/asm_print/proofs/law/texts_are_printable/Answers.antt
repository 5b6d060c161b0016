use Rattle.asm_print.proofs.Texts.{printable}
use Rattle.asm_print.proofs.law.texts_are_printable.Goals as goal

pub returns : goal.returns
returns c w d p text checked assembled names t = printable d text p (c.checked_is_readable.ensures w d checked) assembled names t
