use Rattle.naive_regular.proofs.Programs.{typed_is_regular}
use Rattle.naive_regular.proofs.laws.typed_is_regular.Goals as goal

pub returns : goal.returns
returns c = typed_is_regular
