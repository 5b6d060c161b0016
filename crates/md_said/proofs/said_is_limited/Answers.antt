use Rattle.md_said.proofs.Limits.{said_limited}
use Rattle.md_said.proofs.said_is_limited.Goals as goal

pub returns : goal.returns
returns c = said_limited
