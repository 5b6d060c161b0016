use Rattle.asm_program.proofs.EmptyText.{empty_text, told_text}
use Rattle.asm_program.proofs.law.examples.Goals as goal

pub returns : goal.returns
returns c = record { text = λ d room. empty_text c.line_reads_back.ensures d room; told = told_text }
