use Rattle.std.proofs.Common.{length}
use Rattle.md_overlap.proofs.holes.+is_named.Given as goal

abbrev pub decreases-is_named : goal.decreases-is_named
decreases-is_named l = length l.registers.now
