use Rattle.color_jumps.proofs.Reading.{jump_reads_less as proved}
use Rattle.color_jumps.proofs.jump_reads_less.Goals as goal

pub returns : goal.returns
returns c = proved
