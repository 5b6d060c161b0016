use Rattle.c_sound.proofs.Runs.{meant_never}
use Rattle.c_sound.proofs.Programs.{typed_is_meant}
use Rattle.c_sound.proofs.law.typed_never_act_zero.Goals as goal

pub returns : goal.returns
returns c = λ m s t input z bytes is. meant_never m t input z bytes (typed_is_meant m.bits s t z is)
