use Rattle.asm_token.specs.Seen.{token_of}
use Rattle.asm_row.proofs.Words.{number_match, other_length, no_decimal}
use Rattle.asm_row.proofs.values.number_in.Goals as goal

pub returns-then-length-text : goal.returns-then-length-text
returns-then-length-text c =
    number_match c.args.text.now (token_of c.in-Some.token) c.in-Some.length c.number_of.result c.in-Some.ensures.found c.if-length-text.true c.number_of.ensures

pub returns-else-length-text : goal.returns-else-length-text
returns-else-length-text c = other_length c.args.text.now (token_of c.in-Some.token) c.in-Some.length c.in-Some.ensures.found c.if-length-text.false

pub returns-in-None : goal.returns-in-None
returns-in-None c = no_decimal c.args.text.now c.in-None.ensures.none
