use Rattle.std.proofs.Common.{sym, ◌∙◌}
use Rattle.rtl_tree.specs.Trees.{tree_of}
use Rattle.md_match.specs.Searches.{fill}
use Rattle.md_match.proofs.Leaves.{occurs_whole}
use Rattle.md_match.proofs.acceptance.+occurs_filled.Goals as goal

pub returns-then-is_same_filled : goal.returns-then-is_same_filled
returns-then-is_same_filled t c =
    occurs_whole (fill c.args.slots.now) (tree_of c.args.part.now) (tree_of c.args.whole.now)
    (sym c.is_same_filled.ensures ∙ c.if-is_same_filled.true)
