use Rattle.naive_counts.proofs.Functions.{code_is_within_weight}
use Rattle.naive_counts.proofs.laws.code_is_within_weight.Goals as goal

pub returns : goal.returns
returns c = code_is_within_weight
