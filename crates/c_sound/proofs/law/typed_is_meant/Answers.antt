use Rattle.c_sound.proofs.Programs.{typed_is_meant}
use Rattle.c_sound.proofs.law.typed_is_meant.Goals as goal

pub returns : goal.returns
returns c = typed_is_meant
