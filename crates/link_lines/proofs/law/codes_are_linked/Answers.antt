use Rattle.link_lines.proofs.Whole.{linked}
use Rattle.link_lines.proofs.law.codes_are_linked.Goals as goal

pub returns : goal.returns
returns c = linked
