use Rattle.std.proofs.Common.{arith}
use Rattle.rtl_text.specs.Seen.{context_of, tokens_of}
use Rattle.rtl_text.proofs.Outcomes.{all_placed, some_misplaced, refused, bytes_are}
use Rattle.rtl_text.proofs.calls.answer.Goals as goal

pub fault-requires : goal.fault-requires
fault-requires c = omega (arith, bytes_are c.args.text.now (tokens_of c.args.tokens.now) c.requires.lexes)

pub returns-in-Ok-Some : goal.returns-in-Ok-Some
returns-in-Ok-Some c =
    all_placed (context_of c.args.c.now) c.args.text.now (tokens_of c.args.tokens.now) c.in-Ok-Some.list.items c.transfer_of.result c.requires.context
    c.requires.lexes (rw c.in-Ok-Some.field-0-is at c.in-Ok-Some.ensures) c.transfer_of.ensures.well c.transfer_of.ensures.ill

pub returns-in-Ok-None : goal.returns-in-Ok-None
returns-in-Ok-None c = some_misplaced (context_of c.args.c.now) c.args.text.now (tokens_of c.args.tokens.now) c.requires.context c.requires.lexes (rw c.in-Ok-None.field-0-is at c.in-Ok-None.ensures)

pub returns-in-Err : goal.returns-in-Err
returns-in-Err c =
    refused (context_of c.args.c.now) c.args.text.now (tokens_of c.args.tokens.now) c.in-Err.trouble c.fault.result c.requires.context c.requires.lexes
    c.in-Err.ensures c.fault.ensures
