use Rattle.naive_counts.proofs.Longest.{ways_are_counted}
use Rattle.naive_counts.proofs.laws.ways_are_counted.Goals as goal

pub returns : goal.returns
returns c = ways_are_counted
