use Rattle.asm_row.proofs.Unique.{line_reads, one_instance}
use Rattle.asm_line.proofs.law.at_most_one_instance.Goals as goal

pub returns : goal.returns
returns c w d n i j tokens checked objects functions p q a b =
    let readable = c.checked_is_readable.ensures w d checked in
    one_instance d readable n objects functions i j tokens
    (line_reads d readable n objects functions i tokens p a) (line_reads d readable n objects functions j tokens q b)
