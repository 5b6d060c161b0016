use Rattle.std.proofs.Common.{sym, subst}
use Rattle.md_check.specs.Checking.{IsChecked}
use Rattle.asm_program.specs.Programs.{Assembled, IsAssembled}
use Rattle.asm_program.specs.Law.{HaveNames}
use Rattle.asm_text_examples.proofs.printing.printed.Goals as goal

pub print_text-requires : goal.print_text-requires
print_text-requires g c = record {
  printable =
      c.texts_are_printable.ensures g.W.Word.BITS c.args.m.now c.args.p.now c.args.text.now (subst (IsChecked g.W.Word.BITS) c.raw.ensures.description c.raw.ensures.checked)
      (subst IsAssembled c.p.view_is c.p.invariant)
      (subst (λ (x : Assembled). HaveNames x.names) c.p.view_is (record { objects = c.len.ensures.names; functions = c.len-2.ensures.names })) c.requires.text;
}
