use Rattle.asm_line.proofs.Printed.{name_within}
use Rattle.asm_line.proofs.shown.of_register.Goals as goal

pub returns-clause-short : goal.returns-clause-short
returns-clause-short c = name_within c.args.registers.now c.args.class c.args.number c.in-Some.name.now c.requires.class c.in-Some.ensures.found
