use Rattle.naive_counts.proofs.Functions.{returns_are_within_weight}
use Rattle.naive_counts.proofs.laws.returns_are_within_weight.Goals as goal

pub returns : goal.returns
returns c = returns_are_within_weight
