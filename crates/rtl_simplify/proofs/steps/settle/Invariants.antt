use Rattle.std.proofs.Common.{◌≡◌}
use Rattle.rtl_tree.specs.Trees.{tree_of}
use Rattle.rtl_tree.specs.Sorts.{IsFitting}
use Rattle.rtl_norm.specs.Normal.{weight, finish}
use Rattle.rtl_simplify.proofs.steps.settle.Given as goal

abbrev pub invariant-steps : goal.invariant-steps
invariant-steps g l = record {
  fits : IsFitting g.W.Word.BITS (tree_of l.e);
  same : finish g.W.Word.BITS (tree_of l.e) ≡ finish g.W.Word.BITS (tree_of l.initial.e);
}

abbrev pub decreases-steps : goal.decreases-steps
decreases-steps g l = weight (tree_of l.e)
