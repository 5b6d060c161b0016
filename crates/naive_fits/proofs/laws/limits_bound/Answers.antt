use Rattle.naive_fits.proofs.Limits.{limits_bound}
use Rattle.naive_fits.proofs.laws.limits_bound.Goals as goal

pub returns : goal.returns
returns c = limits_bound
