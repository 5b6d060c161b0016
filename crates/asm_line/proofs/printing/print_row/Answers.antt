use Rattle.asm_line.proofs.Printed.{each_has_token, row_written}
use Rattle.asm_line.proofs.printing.print_row.Goals as goal

pub push_tokens-requires-clause-some : goal.push_tokens-requires-clause-some
push_tokens-requires-clause-some c =
    each_has_token c.args.d.now c.args.names.now c.args.row.now c.args.binding.now c.requires.ready.readable.in_order c.requires.ready.readable.named c.requires.ready.fit c.requires.ready.named

pub returns : goal.returns
returns c = row_written c.args.d.now c.args.names.now c.args.row.now c.args.binding.now _ c.requires.ready c.push_tokens.ensures
