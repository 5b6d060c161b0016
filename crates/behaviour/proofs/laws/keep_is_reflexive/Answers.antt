use Rattle.behaviour.proofs.Sameness.{keep_refl}
use Rattle.behaviour.proofs.laws.keep_is_reflexive.Goals as goal

pub returns : goal.returns
returns c = keep_refl
