use Rattle.c_helper_trees.proofs.Frames.{helper_frames}
use Rattle.c_helper_trees.proofs.laws.helper_frames.Goals as goal

pub returns : goal.returns
returns c = helper_frames
