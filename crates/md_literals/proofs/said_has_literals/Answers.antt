use Rattle.md_literals.proofs.Whole.{said_literal}
use Rattle.md_literals.proofs.said_has_literals.Goals as goal

pub returns : goal.returns
returns c = said_literal
