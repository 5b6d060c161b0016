use Rattle.rtl_tree.specs.Trees.{tree_of}
use Rattle.md_match.specs.Searches.{fill}
use Rattle.md_match.proofs.Leaves.{leaf_last}
use Rattle.md_match.proofs.acceptance.+is_same_filled.Goals as goal

pub returns-in_default : goal.returns-in_default
returns-in_default t c =
    let last = leaf_last c.args.slots.now (fill c.args.slots.now (tree_of c.args.a.now)) c.args.b.now
    c.in_default.not-Mem c.in_default.not-Un c.in_default.not-Bin in
    let first = c.leaf_filled.ensures in
    let second = c.leaf_filled-in_default.ensures in
    let whole = c.is_same_leaf.ensures in
    cc
