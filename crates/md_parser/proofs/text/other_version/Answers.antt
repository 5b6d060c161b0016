use Rattle.std.proofs.Common.{rules, [], arith}
use Rattle.md_parser.proofs.FirstTold.{version_at}
use Rattle.md_parser.proofs.text.other_version.Goals as goal

pub returns-then-eq-clause-none : goal.returns-then-eq-clause-none
returns-then-eq-clause-none c =
    version_at c.args.lines.now (record { number = 0; bytes = record { ref_ptr = (0, 0); now = [] } }) (omega (arith, c.in-len1-up.len_at_least)) (search rules)
