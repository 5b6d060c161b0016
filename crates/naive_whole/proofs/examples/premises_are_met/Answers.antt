use Rattle.naive_whole.proofs.Meeting.{premises_are_met}
use Rattle.naive_whole.proofs.examples.premises_are_met.Goals as goal

pub returns : goal.returns
returns c = premises_are_met
