use Rattle.std.proofs.Common.{refl}
use Rattle.asm_row.proofs.Walking.{begins_by, next_of}
use Rattle.asm_row.proofs.tokens.next_token.Goals as goal

pub first_token-requires : goal.first_token-requires
first_token-requires c = begins_by c.args.text.now c.gap_length.result c.gap_length.ensures.length

pub returns : goal.returns
returns c = next_of c.args.text.now _ c.gap_length.result c.first_token.result c.gap_length.ensures.length refl c.first_token.ensures
