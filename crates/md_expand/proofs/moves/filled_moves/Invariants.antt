use Rattle.std.proofs.Common.{ℕ, ◌≤◌, List, map, take}
use Rattle.std.specs.declared.option.Option.TheVariants.{Some}
use Rattle.rtl_tree.specs.Trees.{Tree}
use Rattle.md_text.specs.Expansion.{move_with, all_there}
use Rattle.md_expand.specs.Meant.{AllMeant}
use Rattle.md_expand.specs.Filled.{BothAllFilled}
use Rattle.md_expand.proofs.moves.filled_moves.Given as goal

abbrev pub invariant-loop-said : goal.invariant-loop-said
invariant-loop-said l =
    (n : ℕ) (ts : List Tree) → AllMeant (n ≤ 256) ts l.leaves
    → BothAllFilled (n ≤ 256) (all_there (map (move_with ts) (take l.said-index l.moves))) (Some l.all.items)
