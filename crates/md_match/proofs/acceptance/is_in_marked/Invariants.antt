use Rattle.std.proofs.Common.{◌≡◌, drop}
use Rattle.rtl_tree.specs.Trees.{tree_of}
use Rattle.md_match.specs.Searches.{in_marked, fill}
use Rattle.md_match.proofs.acceptance.is_in_marked.Given as goal

abbrev pub invariant-loop-j : goal.invariant-loop-j
invariant-loop-j l =
    in_marked (fill l.slots) (drop l.j l.row) (drop l.j l.used) (tree_of l.part) ≡ in_marked (fill l.slots) l.row l.used (tree_of l.part)
