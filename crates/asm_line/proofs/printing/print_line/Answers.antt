use Rattle.std.proofs.Common.{ap, ◌∙◌}
use Rattle.md_rows.specs.declared.instance.Instance.{Instance}
use Rattle.asm_line.proofs.Printed.{some_row, ready_at, written_at}
use Rattle.asm_line.proofs.printing.print_line.Goals as goal

pub row_at-requires : goal.row_at-requires
row_at-requires g c =
    some_row c.args.m.now c.raw-d.result.now c.args.i.now c.requires.instance.0 _ c.raw-d.ensures.description (ap (λ (x : Instance). x.row) c.i.view_is) c.requires.instance.1

pub print_row-requires-clause-ready : goal.print_row-requires-clause-ready
print_row-requires-clause-ready g c =
    ready_at c.args.m.now c.raw-d.result.now c.args.n.now c.args.i.now c.requires.instance.0 c.row_at.result.now _ c.as_slice.result.now
    c.raw-d.ensures.description (ap (λ (x : Instance). x.row) c.i.view_is) (c.as_slice.ensures ∙ ap (λ (x : Instance). x.binding) c.i.view_is)
    (c.checked_is_readable.ensures g.W.Word.BITS c.raw-d.result.now c.raw-d.ensures.checked) c.requires.instance.1 c.row_at.ensures c.requires.named

pub returns : goal.returns
returns g c =
    written_at c.args.m.now c.raw-d.result.now c.args.n.now c.args.i.now c.requires.instance.0 c.row_at.result.now _ c.as_slice.result.now c.print_row.new.out
    c.raw-d.ensures.description (ap (λ (x : Instance). x.row) c.i.view_is) (c.as_slice.ensures ∙ ap (λ (x : Instance). x.binding) c.i.view_is)
    c.requires.instance.1 c.row_at.ensures c.print_row.ensures
