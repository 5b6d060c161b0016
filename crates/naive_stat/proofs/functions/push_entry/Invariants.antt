use Rattle.std.proofs.Common.{◌≡◌, ◌++◌, ◌-◌}
use Rattle.naive_code.specs.Functions.{entry_from}
use Rattle.naive_expr.specs.Emitted.{emitted}
use Rattle.naive_stat.proofs.functions.push_entry.Given as goal

abbrev pub invariant-loop-i : goal.invariant-loop-i
invariant-loop-i l =
    (emitted l.out ++ entry_from l.bytes l.offset l.i (l.count - l.i) ≡ emitted l.fn.out ++ entry_from l.bytes l.offset 0 l.count)
    × (l.out.depths ≡ l.fn.out.depths) × (l.out.next_temp ≡ l.fn.out.next_temp) × (l.out.next_label ≡ l.fn.out.next_label)
