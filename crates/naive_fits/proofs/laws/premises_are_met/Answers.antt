use Rattle.naive_fits.proofs.Meeting.{premises_are_met}
use Rattle.naive_fits.proofs.laws.premises_are_met.Goals as goal

pub returns : goal.returns
returns c = premises_are_met
