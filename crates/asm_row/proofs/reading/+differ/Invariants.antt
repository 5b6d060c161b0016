use Rattle.std.proofs.Common.{length}
use Rattle.asm_row.proofs.reading.+differ.Given as goal

abbrev pub decreases-differ : goal.decreases-differ
decreases-differ l = length l.effects.now
