use Rattle.c_sound.proofs.Runs.{meant_never}
use Rattle.c_sound.proofs.law.meant_never_act_zero.Goals as goal

pub returns : goal.returns
returns c = meant_never
