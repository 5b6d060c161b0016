use Rattle.c_parser.proofs.Lexed.{lexed_is_ended}
use Rattle.c_source.proofs.Outcomes.{refused_by_parser}
use Rattle.c_source.proofs.source.tree_of.Goals as goal

pub parse-requires : goal.parse-requires
parse-requires c = lexed_is_ended c.args.text.now c.in-Ok.tokens.items c.in-Ok.ensures.found

pub returns-in-Ok-clause-refused : goal.returns-in-Ok-clause-refused
returns-in-Ok-clause-refused c = refused_by_parser c.args.text.now c.in-Ok.tokens.items c.parse.result c.in-Ok.ensures.found c.parse.ensures.refused
