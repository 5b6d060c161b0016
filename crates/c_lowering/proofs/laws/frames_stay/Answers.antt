use Rattle.c_lowering.proofs.Frames.{frames_stay}
use Rattle.c_lowering.proofs.laws.frames_stay.Goals as goal

pub returns : goal.returns
returns c = frames_stay
