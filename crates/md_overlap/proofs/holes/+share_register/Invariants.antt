use Rattle.std.proofs.Common.{length}
use Rattle.md_overlap.proofs.holes.+share_register.Given as goal

abbrev pub decreases-share_register : goal.decreases-share_register
decreases-share_register l = length l.registers.now
