use Rattle.md_rows.proofs.Numbers.{prints_number_of}
use Rattle.md_rows.proofs.laws.prints_number_of_value.Goals as goal

pub returns : goal.returns
returns c = prints_number_of
