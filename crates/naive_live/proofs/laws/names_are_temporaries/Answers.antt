use Rattle.naive_live.proofs.Naming.{names_are_temporaries}
use Rattle.naive_live.proofs.laws.names_are_temporaries.Goals as goal

pub returns : goal.returns
returns c = names_are_temporaries
