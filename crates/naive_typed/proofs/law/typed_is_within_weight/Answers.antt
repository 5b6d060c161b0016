use Rattle.naive_typed.proofs.Names.{typed_is_within_weight}
use Rattle.naive_typed.proofs.law.typed_is_within_weight.Goals as goal

pub returns : goal.returns
returns c = typed_is_within_weight c.code_is_within_weight.ensures
