use Rattle.std.proofs.Common.{sym}
use Rattle.vpo_top.proofs.Steps.{none_read, some_read, other_read}
use Rattle.vpo_top.proofs.request.read_steps.Goals as goal

pub returns-in_default : goal.returns-in_default
returns-in_default c = sym (none_read c.args.word.now c.parse.result c.parse.ensures.value.0 (λ n is. c.in_default.not-Ok n is))

pub returns-then-are_steps : goal.returns-then-are_steps
returns-then-are_steps c = some_read c.args.word.now c.in-Ok.steps (sym c.if-are_steps.ensures)

pub returns-else-are_steps : goal.returns-else-are_steps
returns-else-are_steps c = sym (other_read c.args.word.now c.parse.result c.in-Ok.steps c.parse.ensures.value.0 c.in-Ok.is (sym c.if-are_steps.ensures))
