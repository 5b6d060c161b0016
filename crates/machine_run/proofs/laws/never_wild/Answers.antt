use Rattle.machine_run.proofs.Runs.{never_wild as proved}
use Rattle.machine_run.proofs.laws.never_wild.Goals as goal

pub returns : goal.returns
returns c = proved
