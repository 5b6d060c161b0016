use Rattle.machine_run.proofs.Runs.{is_run as proved}
use Rattle.machine_run.proofs.laws.is_run.Goals as goal

pub returns : goal.returns
returns c = proved
