use Rattle.std.proofs.Common.{◌≡◌, ◌+◌, drop, map}
use Rattle.md_match.specs.Find.{size}
use Rattle.md_match.specs.Searches.{match_all, pick, moves_size, goal_tree}
use Rattle.md_shapes.specs.Drawings.{search_of, todo_size, drawn_move, drawn_tree, drawn_goal}
use Rattle.md_shapes.proofs.search.+search.Given as goal

abbrev pub decreases-assign : goal.decreases-assign
decreases-assign l = moves_size (map drawn_move (drop l.i l.goal.now))

abbrev pub decreases-go : goal.decreases-go
decreases-go l = size (drawn_tree l.e.now) + todo_size l.goal.now l.then.now

abbrev pub decreases-next : goal.decreases-next
decreases-next l = todo_size l.goal.now l.then.now

abbrev pub decreases-pair : goal.decreases-pair
decreases-pair l = 1 + size (goal_tree (drawn_goal l.e.now.to)) + size (drawn_tree l.e.now.value) + todo_size l.goal.now l.then.now

abbrev pub invariant-assign-loop-j : goal.invariant-assign-loop-j
invariant-assign-loop-j l =
    pick (search_of l.t).fit (drop l.j l.t.row.now) l.j (drawn_move l.e) l.used (match_all (search_of l.t) (map drawn_move (drop (l.i + 1) l.goal))) l.slots
    ≡ match_all (search_of l.t) (map drawn_move (drop l.i l.goal)) l.used l.slots
