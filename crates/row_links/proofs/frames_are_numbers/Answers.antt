use Rattle.row_links.proofs.Numbers.{frames as law}
use Rattle.row_links.proofs.frames_are_numbers.Goals as goal

pub returns : goal.returns
returns c = law
