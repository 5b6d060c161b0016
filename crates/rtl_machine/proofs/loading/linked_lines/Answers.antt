use Rattle.std.proofs.Common.{All, ap, ◌∙◌, sym, subst}
use Rattle.md_instances.specs.Instances.{IsOfDescription}
use Rattle.asm_program.specs.Programs.{Assembled}
use Rattle.rtl_machine.proofs.Made.{row_within}
use Rattle.rtl_machine.proofs.loading.linked_lines.Goals as goal

pub line_of-requires : goal.line_of-requires
line_of-requires c =
    let lines = c.deref-line-items.ensures.value ∙ ap (λ (p : Assembled). p.lines) c.p.view_is in
    let all = subst (All (IsOfDescription c.args.d.now)) (sym lines) c.requires.instances in
    record {
      row =
          row_within c.args.d.now c.line-item.result
          (subst (IsOfDescription c.args.d.now) (sym c.line-item.is) (all c.loop-line.line-index c.line-item.result c.loop-line-test.true));
    }
