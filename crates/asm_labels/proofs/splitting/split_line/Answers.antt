use Rattle.asm_labels.proofs.FirstLine.{before_feed, last_line}
use Rattle.asm_labels.proofs.splitting.split_line.Goals as goal

pub returns-then-end-text-clause-lines : goal.returns-then-end-text-clause-lines
returns-then-end-text-clause-lines c = before_feed c.args.text.now c.line_length-end.result c.line_length-end.ensures.length c.if-end-text.true

pub returns-else-end-text-clause-lines : goal.returns-else-end-text-clause-lines
returns-else-end-text-clause-lines c =
    last_line c.args.text.now c.split_at.result.0.now c.split_at.result.1.now c.line_length-end.result c.requires.some c.line_length-end.ensures.length c.line_length-end.ensures.within c.if-end-text.false
    c.split_at.ensures.front c.split_at.ensures.back
