use Rattle.std.proofs.Common.{◌≡◌, ◌++◌, drop}
use Rattle.naive_code.specs.Expressions.{stored_from}
use Rattle.naive_expr.specs.Emitted.{emitted}
use Rattle.naive_expr.proofs.calls.push_stores.Given as goal

abbrev pub invariant-loop-i : goal.invariant-loop-i
invariant-loop-i l =
    (emitted l.out ++ stored_from l.bytes l.i (drop l.i l.values) ≡ emitted l.fn.out ++ stored_from l.bytes 0 l.values)
    × (l.out.depths ≡ l.fn.out.depths) × (l.out.next_temp ≡ l.fn.out.next_temp) × (l.out.next_label ≡ l.fn.out.next_label)
