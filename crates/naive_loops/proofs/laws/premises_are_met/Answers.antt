use Rattle.naive_loops.proofs.Example.{premises_are_met}
use Rattle.naive_loops.proofs.laws.premises_are_met.Goals as goal

pub returns : goal.returns
returns c = premises_are_met
