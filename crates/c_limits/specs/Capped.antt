-- The weights that a u64 holds.
use Rattle.c_limits.specs.declared.weight.Weight.{Weight}
use Rattle.c_limits.specs.Sums.{capped}

abbrev pub capped_weight : Weight → Weight
capped_weight a = record { place = a.place; inside = capped a.inside; total = capped a.total }
