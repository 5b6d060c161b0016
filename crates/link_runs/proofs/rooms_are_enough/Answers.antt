use Rattle.link_runs.proofs.Sizes.{enough}
use Rattle.link_runs.proofs.rooms_are_enough.Goals as goal

pub returns : goal.returns
returns c = enough c.codes_are_linked.ensures
