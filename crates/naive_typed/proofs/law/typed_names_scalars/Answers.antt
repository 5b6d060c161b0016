use Rattle.naive_typed.proofs.Names.{typed_names_scalars}
use Rattle.naive_typed.proofs.law.typed_names_scalars.Goals as goal

pub returns : goal.returns
returns c = typed_names_scalars
