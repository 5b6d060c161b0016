use Rattle.naive_forms.proofs.Five.{five_is_proper}
use Rattle.naive_forms.proofs.laws.five_is_proper.Goals as goal

pub returns : goal.returns
returns c = five_is_proper
