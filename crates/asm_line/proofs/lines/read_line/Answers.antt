use Rattle.std.proofs.Common.{subst}
use Rattle.md_rows.specs.declared.description.RawDescription.{RawDescription}
use Rattle.asm_line.specs.Answers.{IsLineRead}
use Rattle.asm_line.proofs.lines.read_line.Goals as goal

pub read_raw-requires-clause-readable : goal.read_raw-requires-clause-readable
read_raw-requires-clause-readable g c = c.checked_is_readable.ensures g.W.Word.BITS c.raw-d.result.now c.raw-d.ensures.checked

pub returns-clause-read : goal.returns-clause-read
returns-clause-read g c =
    subst (λ (x : RawDescription). IsLineRead x c.args.n.now c.read_raw.new.n c.args.text.now c.read_raw.result) c.raw-d.ensures.description c.read_raw.ensures.read
