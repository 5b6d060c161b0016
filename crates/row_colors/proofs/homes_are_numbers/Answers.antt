use Rattle.row_colors.proofs.Spilling.{homes as law}
use Rattle.row_colors.proofs.homes_are_numbers.Goals as goal

pub returns : goal.returns
returns c = law
