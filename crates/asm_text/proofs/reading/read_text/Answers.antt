use Rattle.std.proofs.Common.{subst}
use Rattle.std.specs.Prelude.{IfErr, IfOk}
use Rattle.md_rows.specs.declared.description.RawDescription.{RawDescription}
use Rattle.asm_program.specs.Programs.{IsText}
use Rattle.asm_text.specs.Read.{IsFaultOf}
use Rattle.asm_text.proofs.reading.read_text.Goals as goal

pub read_raw-requires : goal.read_raw-requires
read_raw-requires g c = record { readable = c.checked_is_readable.ensures g.W.Word.BITS c.raw-d.result.now c.raw-d.ensures.checked }

pub returns-clause-text : goal.returns-clause-text
returns-clause-text g c =
    subst (λ (x : RawDescription). IfOk c.read_raw.result (λ p. IsText x c.args.text.now p)) c.raw-d.ensures.description c.read_raw.ensures.text

pub returns-clause-bad : goal.returns-clause-bad
returns-clause-bad g c =
    subst (λ (x : RawDescription). IfErr c.read_raw.result (λ f. IsFaultOf x c.args.text.now f)) c.raw-d.ensures.description c.read_raw.ensures.bad
