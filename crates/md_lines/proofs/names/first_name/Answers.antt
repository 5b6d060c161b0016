use Rattle.md_lines.proofs.Wholes.{no_truth}
use Rattle.md_lines.proofs.NamesRead.{no_space, no_name}
use Rattle.md_lines.proofs.names.first_name.Goals as goal

pub returns-in_err-rest-clause-none : goal.returns-in_err-rest-clause-none
returns-in_err-rest-clause-none c = rw c.from_residual.ensures (no_space c.args.text.now c.in_err-rest.ensures)

pub returns-else-is_name-clause-none : goal.returns-else-is_name-clause-none
returns-else-is_name-clause-none c =
    no_name c.args.text.now c.in_ok-rest.rest.now c.upto_space.result.0.now c.upto_space.result.1.now c.in_ok-rest.ensures c.upto_space.ensures (λ n. no_truth (c.if-is_name.ensures.1 n))
