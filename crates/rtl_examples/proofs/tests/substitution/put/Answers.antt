use Rattle.std.proofs.Common.{sym, subst}
use Rattle.rtl_tree.specs.Trees.{tree_of}
use Rattle.rtl_tree.specs.Sorts.{IsFitting}
use Rattle.rtl_examples.proofs.Fitting.{put_fits}
use Rattle.rtl_examples.proofs.tests.substitution.put.Goals as goal

pub normalise-requires : goal.normalise-requires
normalise-requires c =
    subst (IsFitting 16) (sym c.in_ok-substitute.ensures)
    (put_fits 16 c.args.c (tree_of c.args.by.now) (tree_of c.args.e) c.requires.by c.requires.tree)
