use Rattle.std.proofs.Common.{length}
use Rattle.md_expand.proofs.expanded.+push_replaced.Given as goal

abbrev pub decreases-push_replaced : goal.decreases-push_replaced
decreases-push_replaced l = length l.pieces.now
