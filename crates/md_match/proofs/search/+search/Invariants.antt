use Rattle.std.proofs.Common.{◌≡◌, ◌+◌, drop}
use Rattle.rtl_tree.specs.Trees.{tree_of}
use Rattle.md_match.specs.Find.{size}
use Rattle.md_match.specs.Searches.{match_all, pick, moves_size, goal_tree}
use Rattle.md_match.specs.Tasks.{search_of, todo_size}
use Rattle.md_match.proofs.search.+search.Given as goal

abbrev pub decreases-assign : goal.decreases-assign
decreases-assign l = moves_size (drop l.i l.t.now.goal.now)

abbrev pub decreases-go : goal.decreases-go
decreases-go l = size (tree_of l.e.now) + todo_size l.t.now.goal.now l.then.now

abbrev pub decreases-next : goal.decreases-next
decreases-next l = todo_size l.t.now.goal.now l.then.now

abbrev pub decreases-pair : goal.decreases-pair
decreases-pair l = 1 + size (goal_tree l.e.now.to) + size l.e.now.value + todo_size l.t.now.goal.now l.then.now

abbrev pub invariant-assign-loop-j : goal.invariant-assign-loop-j
invariant-assign-loop-j l =
    pick (search_of l.t).fit (drop l.j l.t.row.now) l.j l.e l.used (match_all (search_of l.t) (drop (l.i + 1) l.t.goal.now)) l.slots
    ≡ match_all (search_of l.t) (drop l.i l.t.goal.now) l.used l.slots
