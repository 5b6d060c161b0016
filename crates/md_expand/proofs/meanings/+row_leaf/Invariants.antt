use Rattle.std.proofs.Common.{length}
use Rattle.md_expand.proofs.meanings.+row_leaf.Given as goal

abbrev pub decreases-row_leaf : goal.decreases-row_leaf
decreases-row_leaf l = length l.text.now
