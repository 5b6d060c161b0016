use Rattle.std.proofs.Common.{◌≡◌, ◌∙◌, List, ap, sym, subst, refl, slice_get, Some}
use Rattle.std.specs.Prelude.{IfOk}
use Rattle.md_rows.specs.declared.description.RawDescription.{RawDescription}
use Rattle.md_rows.specs.declared.description.Register.{Register}
use Rattle.md_rows.specs.declared.row.Row.{Row}
use Rattle.md_shapes.specs.Drawings.{frame_of}
use Rattle.md_covers.specs.Covers.{general_bits, IsOpenOf}
use Rattle.temp_shapes.specs.Operands.{open_of}
use Rattle.temp_shapes.specs.Rows.{AreShapeRows, CoversPattern}
use Rattle.temp_shapes.specs.Instances.{IsInstanceOf}
use Rattle.temp_shapes.proofs.Roles.{checked_general}
use Rattle.temp_shapes.proofs.Covering.{same_row, make_doer, make_instance}
use Rattle.temp_shapes.proofs.transfers.instance_of.Goals as goal

pub row_instance-requires-clause-doer : goal.row_instance-requires-clause-doer
row_instance-requires-clause-doer g c =
    let e = c.raw-d.result.now in
    let back = sym c.raw-d.ensures.description in
    let rows = subst (λ (d : RawDescription). AreShapeRows d c.args.rows.now) back c.requires.rows in
    let fit = subst (λ (d : RawDescription). IsOpenOf d.word (general_bits d.registers) c.args.pattern (open_of c.args.operands)) back c.requires.fit in
    let x = c.in-Some.ensures e rows in
    let same = same_row c.as_slice-2.result.now e.rows c.from.result c.in-Some.place c.index-as_slice-from.result x.0 c.as_slice-2.ensures c.from.ensures x.1
    c.index-as_slice-from.is in
    let has = subst (λ (r : Row). slice_get e.rows c.in-Some.place ≡ Some r) (sym same) x.1 in
    let covers = subst (λ (r : Row). CoversPattern e r c.args.pattern) (sym same) x.2 in
    let bits = c.general_bits-general.ensures ∙ ap (λ (rs : List Register). general_bits rs) c.as_slice.ensures in
    make_doer g.W.Word.BITS e c.args.rows.now c.args.pattern (open_of c.args.operands) c.general_bits-general.result c.in-Some.place c.index-as_slice-from.result
    c.in_ok-transfer.transfer c.said_is_sound.ensures c.raw-d.ensures.checked rows has covers fit bits c.in_ok-transfer.ensures

pub returns : goal.returns
returns g c =
    let e = c.raw-d.result.now in
    let back = sym c.raw-d.ensures.description in
    let rows = subst (λ (d : RawDescription). AreShapeRows d c.args.rows.now) back c.requires.rows in
    let x = c.in-Some.ensures e rows in
    let same = same_row c.as_slice-2.result.now e.rows c.from.result c.in-Some.place c.index-as_slice-from.result x.0 c.as_slice-2.ensures c.from.ensures x.1
    c.index-as_slice-from.is in
    let has = subst (λ (r : Row). slice_get e.rows c.in-Some.place ≡ Some r) (sym same) x.1 in
    let covers = subst (λ (r : Row). CoversPattern e r c.args.pattern) (sym same) x.2 in
    let bits = c.general_bits-general.ensures ∙ (ap (λ (rs : List Register). general_bits rs) c.as_slice.ensures
    ∙ checked_general g.W.Word.BITS e c.said_is_limited.ensures c.raw-d.ensures.checked c.general_bits_are_a_sum.ensures) in
    subst (λ (d : RawDescription). IfOk c.row_instance.result (IsInstanceOf d (frame_of d.word c.args.rows.now.frame) c.args.pattern (open_of c.args.operands)))
    c.raw-d.ensures.description
    (make_instance g.W.Word.BITS e c.args.rows.now c.args.pattern (open_of c.args.operands) c.general_bits-general.result c.in-Some.place
    c.index-as_slice-from.result c.in_ok-transfer.transfer c.row_instance.result c.said_is_sound.ensures c.raw-d.ensures.checked rows has covers bits
    c.in_ok-transfer.ensures c.row_instance.ensures)
