use Rattle.link_lines.proofs.Covered.{covered}
use Rattle.link_lines.proofs.law.added_are_covered.Goals as goal

pub returns : goal.returns
returns c = covered c.required_covered.ensures
