use Rattle.std.proofs.Common.{subst}
use Rattle.md_check.specs.Checking.{IsChecked}
use Rattle.asm_program.specs.Programs.{Assembled, IsAssembled}
use Rattle.asm_program.specs.Law.{HaveNames}
use Rattle.asm_print.proofs.Ordered.{handed}
use Rattle.asm_print.proofs.printing.print_text.Goals as goal

pub returns-clause-text : goal.returns-clause-text
returns-clause-text g c =
    handed _ _
    (λ text laid.
    c.lines_are_text.ensures g.W.Word.BITS c.args.m.now c.args.p.now text.items (subst (IsChecked g.W.Word.BITS) c.raw.ensures.description c.raw.ensures.checked)
    (subst IsAssembled c.p.view_is c.p.invariant)
    (subst (λ (x : Assembled). HaveNames x.names) c.p.view_is (record { objects = c.len.ensures.names; functions = c.len-2.ensures.names })) c.requires.printable laid)
    c.laid_out.result c.laid_out.ensures
