use Rattle.asm_row.proofs.Among.{named_match}
use Rattle.asm_row.proofs.values.register_named.Goals as goal

pub returns : goal.returns
returns c = named_match c.args.registers.now c.args.class c.args.name.now c.register_among.result c.register_among.ensures
