use Rattle.naive_whole.proofs.Whole.{naive_is_same}
use Rattle.naive_whole.proofs.laws.naive_code_does_the_same.Goals as goal

pub returns : goal.returns
returns c = naive_is_same
