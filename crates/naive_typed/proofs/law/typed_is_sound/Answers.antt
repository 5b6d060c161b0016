use Rattle.naive_typed.proofs.Programs.{typed_is_sound}
use Rattle.naive_typed.proofs.law.typed_is_sound.Goals as goal

pub returns : goal.returns
returns c = typed_is_sound
