use Rattle.asm_labels.proofs.Tokens.{one_behind, more_behind}
use Rattle.asm_labels.proofs.saying.behind_name.Goals as goal

pub returns-then-is_end : goal.returns-then-is_end
returns-then-is_end c = one_behind c.args.name.now c.args.behind.now c.in-Token.rest.now _ c.by_two.result c.in-Token.ensures (c.is_end.ensures.end c.if-is_end.true) c.by_two.ensures

pub returns-else-is_end : goal.returns-else-is_end
returns-else-is_end c = more_behind c.args.name.now c.args.behind.now c.in-Token.rest.now _ c.in-Token.ensures (c.is_end.ensures.more c.if-is_end.false)
