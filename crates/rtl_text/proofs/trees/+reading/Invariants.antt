use Rattle.std.proofs.Common.{◌+◌, ◌*◌}
use Rattle.rtl_text.proofs.trees.+reading.Given as goal

abbrev pub decreases-tree : goal.decreases-tree
decreases-tree l = 16 * l.room

abbrev pub decreases-address : goal.decreases-address
decreases-address l = 16 * l.room + 1

abbrev pub decreases-boxed : goal.decreases-boxed
decreases-boxed l = 16 * l.room + 1

abbrev pub decreases-memory : goal.decreases-memory
decreases-memory l = 16 * l.room + 2

abbrev pub decreases-unary : goal.decreases-unary
decreases-unary l = 16 * l.room + 2

abbrev pub decreases-right : goal.decreases-right
decreases-right l = 16 * l.room + 2

abbrev pub decreases-operator : goal.decreases-operator
decreases-operator l = 16 * l.room + 3

abbrev pub decreases-after_relation : goal.decreases-after_relation
decreases-after_relation l = 16 * l.room + 3

abbrev pub decreases-after_operator : goal.decreases-after_operator
decreases-after_operator l = 16 * l.room + 4

abbrev pub decreases-tested : goal.decreases-tested
decreases-tested l = 16 * l.room + 5

abbrev pub decreases-inside : goal.decreases-inside
decreases-inside l = 16 * l.room + 6

abbrev pub decreases-tree_at_sign : goal.decreases-tree_at_sign
decreases-tree_at_sign l = 16 * l.room + 7

abbrev pub decreases-tree_on : goal.decreases-tree_on
decreases-tree_on l = 16 * l.room + 8
