use Rattle.std.proofs.Common.{◌≡◌, ◌+◌, ◌*◌, ◌<◌, ◌^◌, drop}
use Rattle.std.specs.Prelude.{max}
use Rattle.c_tree.proofs.typed.TypedExpr.TheLaws.{the_size}
use Rattle.c_limits.specs.Depths.{deepest_of}
use Rattle.naive_code.specs.Expressions.{arguments, results_of}
use Rattle.naive_expr.specs.Seen.{site_of}
use Rattle.naive_expr.specs.Operands.{values_of}
use Rattle.naive_expr.proofs.Gathering.{Gathers}
use Rattle.naive_expr.proofs.expressions.+expressions.Given as goal

abbrev pub decreases-expand_value : goal.decreases-expand_value
decreases-expand_value l = 8 * the_size l.e.now

abbrev pub decreases-expand_test : goal.decreases-expand_test
decreases-expand_test l = 8 * the_size l.e.now + 1

abbrev pub decreases-address : goal.decreases-address
decreases-address l = 8 * the_size l.i.now + 1

abbrev pub decreases-element : goal.decreases-element
decreases-element l = 8 * the_size l.i.now + 2

abbrev pub decreases-open : goal.decreases-open
decreases-open l = 8 * the_size l.a.now

abbrev pub decreases-assign : goal.decreases-assign
decreases-assign l = 8 * max (the_size l.a.now) (the_size l.b.now) + 2

abbrev pub decreases-compound : goal.decreases-compound
decreases-compound l = 8 * max (the_size l.a.now) (the_size l.b.now) + 2

abbrev pub decreases-step_before : goal.decreases-step_before
decreases-step_before l = 8 * the_size l.a.now + 1

abbrev pub decreases-step_after : goal.decreases-step_after
decreases-step_after l = 8 * the_size l.a.now + 1

abbrev pub decreases-decide : goal.decreases-decide
decreases-decide l = 8 * max (the_size l.a.now) (the_size l.b.now) + 2

abbrev pub decreases-compute : goal.decreases-compute
decreases-compute l = 8 * max (the_size l.a.now) (the_size l.b.now) + 1

abbrev pub decreases-binary : goal.decreases-binary
decreases-binary l = 8 * max (the_size l.a.now) (the_size l.b.now) + 3

abbrev pub decreases-unary : goal.decreases-unary
decreases-unary l = 8 * the_size l.a.now + 2

abbrev pub decreases-choose : goal.decreases-choose
decreases-choose l = 8 * max (the_size l.a.now) (max (the_size l.b.now) (the_size l.c.now)) + 2

abbrev pub decreases-arguments : goal.decreases-arguments
decreases-arguments l = 8 * goal.size-arguments l + 1

abbrev pub decreases-call : goal.decreases-call
decreases-call l = 8 * goal.size-call l + 2

abbrev pub invariant-arguments-loop-e : goal.invariant-arguments-loop-e
invariant-arguments-loop-e l =
    (l.at ≡ l.depth + l.e-index) × (l.depth + 6 + deepest_of l.e-index (drop l.e-index l.es) < 2 ^ 16)
    × Gathers (site_of l.site) l.fn.out l.out (arguments (values_of (site_of l.site) l.es)) (results_of (values_of (site_of l.site) l.es) l.fn.out.next_temp) l.depth l.at
    l.made (drop l.e-index l.es)
