use Rattle.naive_homes.proofs.Reading.{reads_are_shapes}
use Rattle.naive_homes.proofs.laws.reads_are_shapes.Goals as goal

pub returns : goal.returns
returns c = reads_are_shapes c.said_is_sound.ensures c.said_is_bounded.ensures
