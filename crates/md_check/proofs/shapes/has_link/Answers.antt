use Rattle.std.proofs.Common.{◌∙◌}
use Rattle.md_rows.specs.declared.description.Role.TheVariants.{Link}
use Rattle.md_check.proofs.Rows.{any_first}
use Rattle.md_check.proofs.shapes.has_link.Goals as goal

pub returns : goal.returns
returns c = c.any_link.ensures ∙ any_first Link c.args.registers.now
