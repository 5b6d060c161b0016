use Rattle.asm_line.proofs.Printed.{label_short}
use Rattle.asm_line.proofs.shown.of_block.Goals as goal

pub returns-clause-short : goal.returns-clause-short
returns-clause-short c = label_short c.args.number c.ranges.number.fits
