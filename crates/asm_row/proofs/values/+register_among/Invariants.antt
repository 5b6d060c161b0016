use Rattle.std.proofs.Common.{length}
use Rattle.asm_row.proofs.values.+register_among.Given as goal

abbrev pub decreases-register_among : goal.decreases-register_among
decreases-register_among l = length l.some.now
