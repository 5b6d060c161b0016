use Rattle.md_lines.proofs.Wholes.{no_truth}
use Rattle.md_lines.proofs.KindTexts.{no_hole_kind, no_hole_name}
use Rattle.md_lines.proofs.kinds.read_slot.Goals as goal

pub returns-in_err-kind-clause-none : goal.returns-in_err-kind-clause-none
returns-in_err-kind-clause-none c = rw c.from_residual-in_err-kind.ensures (no_hole_kind c.args.text.now c.in_ok-name.name.now c.in_ok-name.rest.now c.in_ok-name.ensures.found c.in_err-kind.ensures.none)

pub returns-else-is_name-clause-none : goal.returns-else-is_name-clause-none
returns-else-is_name-clause-none c = no_hole_name c.args.text.now c.in_ok-name.name.now c.in_ok-name.rest.now c.in_ok-name.ensures.found (λ n. no_truth (c.if-is_name.ensures.1 n))
