use Rattle.std.proofs.Common.{sym, ◌∙◌}
use Rattle.asm_program.specs.Rules.{nothing, long_nothing}
use Rattle.asm_faults.proofs.faults.blank_fault.Goals as goal

pub returns-then-first_is_long : goal.returns-then-first_is_long
returns-then-first_is_long c d = long_nothing c.requires.blank (sym c.first_is_long.ensures ∙ c.if-first_is_long.true)

pub returns-else-first_is_long : goal.returns-else-first_is_long
returns-else-first_is_long c d = nothing c.requires.blank (sym c.first_is_long.ensures ∙ c.if-first_is_long.false)
