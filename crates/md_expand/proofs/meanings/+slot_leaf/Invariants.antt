use Rattle.std.proofs.Common.{length}
use Rattle.md_expand.proofs.meanings.+slot_leaf.Given as goal

abbrev pub decreases-slot_leaf : goal.decreases-slot_leaf
decreases-slot_leaf l = length l.text.now
