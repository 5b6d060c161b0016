use Rattle.asm_line.specs.declared.writing.Before.TheVariants.{Start}
use Rattle.asm_line.specs.Shown.{tokens_in}
use Rattle.asm_line.specs.Spacing.{line_from}
use Rattle.asm_line.proofs.Printed.{at_start}
use Rattle.asm_line.proofs.printing.push_tokens.Goals as goal

pub loop-piece-init : goal.loop-piece-init
loop-piece-init c =
    at_start c.args.d.now.registers c.args.row.now.holes c.args.out.now
    (line_from Start (tokens_in c.args.d.now c.args.names.now c.args.row.now c.args.binding.now c.args.row.now.text)) c.args.row.now.text c.requires.empty c.requires.short
