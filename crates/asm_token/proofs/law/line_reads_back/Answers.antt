use Rattle.asm_token.proofs.Lines.{line_reads_back}
use Rattle.asm_token.proofs.law.line_reads_back.Goals as goal

pub returns : goal.returns
returns c = λ gap ts g h. line_reads_back gap ts g h
