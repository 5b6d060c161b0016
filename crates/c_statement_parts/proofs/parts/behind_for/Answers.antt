use Rattle.c_statement_parts.proofs.Scopes.{front}
use Rattle.c_statement_parts.proofs.parts.behind_for.Goals as goal

pub returns-clause-here : goal.returns-clause-here
returns-clause-here c = front c.args.start c.args.state c.in_ok-state.state c.in_ok-state.ensures.names c.in_ok-state.ensures.rest
