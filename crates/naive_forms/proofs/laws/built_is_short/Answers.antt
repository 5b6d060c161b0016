use Rattle.naive_forms.proofs.Functions.{built_is_short}
use Rattle.naive_forms.proofs.laws.built_is_short.Goals as goal

pub returns : goal.returns
returns c = built_is_short c.ways_are_counted.ensures
