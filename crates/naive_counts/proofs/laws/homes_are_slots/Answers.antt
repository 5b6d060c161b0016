use Rattle.naive_counts.proofs.Homes.{homes_are_slots}
use Rattle.naive_counts.proofs.laws.homes_are_slots.Goals as goal

pub returns : goal.returns
returns c = homes_are_slots
