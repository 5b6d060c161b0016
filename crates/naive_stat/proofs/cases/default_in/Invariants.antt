use Rattle.std.proofs.Common.{◌≡◌, drop}
use Rattle.naive_stat.specs.Cases.{cases_of, default_of}
use Rattle.naive_stat.proofs.cases.default_in.Given as goal

abbrev pub invariant-loop-case : goal.invariant-loop-case
invariant-loop-case l = default_of l.behind (cases_of (drop l.case-index l.cases)) ≡ default_of l.behind (cases_of l.cases)
