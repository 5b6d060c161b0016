use Rattle.std.proofs.Common.{rules}
use Rattle.asm_line.proofs.Printed.{number_short}
use Rattle.asm_line.proofs.shown.of_number.Goals as goal

pub returns-clause-short : goal.returns-clause-short
returns-clause-short c =
    number_short c.args.bits c.args.low c.args.high c.args.inverted c.args.word _ c.requires.size c.requires.word (search rules)
