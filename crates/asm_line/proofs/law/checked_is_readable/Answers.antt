use Rattle.asm_line.proofs.Accepted.{checked_readable}
use Rattle.asm_line.proofs.law.checked_is_readable.Goals as goal

pub returns : goal.returns
returns c = checked_readable
