use Rattle.std.proofs.Common.{◌+◌, ◌*◌}
use Rattle.std.specs.Prelude.{max}
use Rattle.rtl_tree.proofs.expressions.Expr.TheLaws.{the_size}
use Rattle.rtl_print.proofs.trees.+trees.Given as goal

abbrev pub decreases-push_tree : goal.decreases-push_tree
decreases-push_tree l = 3 * the_size l.e.now

abbrev pub decreases-push_memory : goal.decreases-push_memory
decreases-push_memory l = 3 * the_size l.address.now + 1

abbrev pub decreases-push_unary : goal.decreases-push_unary
decreases-push_unary l = 3 * the_size l.a.now + 2

abbrev pub decreases-push_binary : goal.decreases-push_binary
decreases-push_binary l = 3 * max (the_size l.a.now) (the_size l.b.now) + 1

abbrev pub decreases-push_test : goal.decreases-push_test
decreases-push_test l = 3 * the_size l.a.now + 1

abbrev pub decreases-push_prefixed : goal.decreases-push_prefixed
decreases-push_prefixed l = 3 * the_size l.a.now + 1
