use Rattle.temp_machine.proofs.Small.{is_run as proved}
use Rattle.temp_machine.proofs.laws.is_run.Goals as goal

pub returns : goal.returns
returns c = proved
