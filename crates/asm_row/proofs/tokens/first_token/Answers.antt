use Rattle.asm_token.specs.Seen.{token_of}
use Rattle.asm_row.proofs.Walking.{end_is, empty_text, first_is}
use Rattle.asm_row.proofs.tokens.first_token.Goals as goal

pub returns-in-Some : goal.returns-in-Some
returns-in-Some c = first_is c.args.text.now (token_of c.in-Some.token) c.in-Some.length c.in-Some.ensures.found

pub returns-in-None : goal.returns-in-None
returns-in-None c = end_is c.args.text.now (empty_text c.args.text.now c.is_empty.result c.is_empty.ensures c.if-is_empty.true)
