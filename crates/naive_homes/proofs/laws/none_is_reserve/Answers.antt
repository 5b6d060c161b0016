use Rattle.naive_homes.proofs.Homes.{none_is_reserve}
use Rattle.naive_homes.proofs.laws.none_is_reserve.Goals as goal

pub returns : goal.returns
returns c = none_is_reserve
