use Rattle.std.proofs.Common.{◌≡◌, ◌++◌, drop}
use Rattle.naive_expr.specs.Emitted.{emitted}
use Rattle.naive_stat.specs.Cases.{cases_of, compared}
use Rattle.naive_stat.proofs.cases.push_comparisons.Given as goal

abbrev pub invariant-loop-case : goal.invariant-loop-case
invariant-loop-case l =
    (emitted l.out ++ compared l.value l.temp l.label (cases_of (drop l.case-index l.cases)) ≡ emitted l.fn.out ++ compared l.value l.fn.temp l.fn.label (cases_of l.cases))
    × (l.out.depths ≡ l.fn.out.depths) × (l.out.next_temp ≡ l.fn.out.next_temp) × (l.out.next_label ≡ l.fn.out.next_label)
