use Rattle.std.proofs.Common.{◌≡◌, ◌∙◌, ℕ, List, ap, sym, subst, refl, get_or, slice_get, Option, Some, None}
use Rattle.std.specs.Prelude.{IfOk}
use Rattle.rtl_tree.specs.Moves.{Move}
use Rattle.md_rows.specs.declared.description.RawDescription.{RawDescription}
use Rattle.md_rows.specs.declared.description.Register.{Register}
use Rattle.md_rows.specs.declared.instance.Instance.{Instance}
use Rattle.md_rows.specs.declared.row.Row.{Row}
use Rattle.md_shapes.specs.Drawings.{frame_of}
use Rattle.md_covers.specs.Covers.{general_bits, IsOpenOf}
use Rattle.temp_shapes.specs.Rows.{AreShapeRows, CoversPattern}
use Rattle.temp_shapes.specs.Instances.{IsInstanceOf}
use Rattle.temp_laws.specs.Conditions.{on_temporaries}
use Rattle.temp_shapes.proofs.Roles.{checked_general}
use Rattle.temp_shapes.proofs.Covering.{same_row, make_doer, make_instance}
use Rattle.link_rows.specs.Added.{found, made_by}
use Rattle.link_rows.proofs.Finding.{row_there, is_open, has_found}
use Rattle.link_rows.proofs.added.added_instance.Goals as goal

pub row_instance-requires-clause-doer : goal.row_instance-requires-clause-doer
row_instance-requires-clause-doer g c =
    let e = c.raw-d.result.now in
    let back = sym c.raw-d.ensures.description in
    let rows = subst (λ (d : RawDescription). AreShapeRows d c.args.rows.now) back c.requires.rows in
    let x = row_there e c.args.rows.now c.args.pattern c.place_of.result c.in-Some.place rows c.place_of.ensures.place c.place_of.ensures.shape c.in-Some.ensures in
    let same = same_row c.as_slice-2.result.now e.rows c.from.result c.in-Some.place c.index-as_slice-from.result x.0 c.as_slice-2.ensures c.from.ensures x.1
    c.index-as_slice-from.is in
    let has = subst (λ (r : Row). slice_get e.rows c.in-Some.place ≡ Some r) (sym same) x.1 in
    let covers = subst (λ (r : Row). CoversPattern e r c.args.pattern) (sym same) x.2 in
    let bits = c.general_bits-general.ensures ∙ ap (λ (rs : List Register). general_bits rs) c.as_slice.ensures in
    let fit = subst (λ (d : RawDescription). IsOpenOf d.word (general_bits d.registers) c.args.pattern (on_temporaries 0 1 c.args.number 0 c.args.label)) back
    (is_open c.args.m.now c.args.pattern c.args.number c.args.label c.requires.number) in
    make_doer g.W.Word.BITS e c.args.rows.now c.args.pattern (on_temporaries 0 1 c.args.number 0 c.args.label) c.general_bits-general.result c.in-Some.place
    c.index-as_slice-from.result c.in_ok-transfer.transfer c.said_is_sound.ensures c.raw-d.ensures.checked rows has covers fit bits c.in_ok-transfer.ensures

pub returns-clause-found : goal.returns-clause-found
returns-clause-found g c =
    let e = c.raw-d.result.now in
    let back = sym c.raw-d.ensures.description in
    let rows = subst (λ (d : RawDescription). AreShapeRows d c.args.rows.now) back c.requires.rows in
    let x = row_there e c.args.rows.now c.args.pattern c.place_of.result c.in-Some.place rows c.place_of.ensures.place c.place_of.ensures.shape c.in-Some.ensures in
    let same = same_row c.as_slice-2.result.now e.rows c.from.result c.in-Some.place c.index-as_slice-from.result x.0 c.as_slice-2.ensures c.from.ensures x.1
    c.index-as_slice-from.is in
    let has = subst (λ (r : Row). slice_get e.rows c.in-Some.place ≡ Some r) (sym same) x.1 in
    let bits = c.general_bits-general.ensures ∙ ap (λ (rs : List Register). general_bits rs) c.as_slice.ensures in
    subst (λ (d : RawDescription). IfOk c.row_instance.result (λ i. found d c.args.rows.now c.args.pattern c.args.number c.args.label ≡ Some i))
    c.raw-d.ensures.description
    (has_found e c.args.rows.now c.args.pattern c.args.number c.args.label c.place_of.result c.in-Some.place c.index-as_slice-from.result
    c.general_bits-general.result c.in_ok-transfer.transfer c.row_instance.result c.place_of.ensures.is c.in-Some.ensures has bits
    c.in_ok-transfer.ensures c.row_instance.ensures.first)

pub returns-clause-instance : goal.returns-clause-instance
returns-clause-instance g c =
    let e = c.raw-d.result.now in
    let back = sym c.raw-d.ensures.description in
    let rows = subst (λ (d : RawDescription). AreShapeRows d c.args.rows.now) back c.requires.rows in
    let x = row_there e c.args.rows.now c.args.pattern c.place_of.result c.in-Some.place rows c.place_of.ensures.place c.place_of.ensures.shape c.in-Some.ensures in
    let same = same_row c.as_slice-2.result.now e.rows c.from.result c.in-Some.place c.index-as_slice-from.result x.0 c.as_slice-2.ensures c.from.ensures x.1
    c.index-as_slice-from.is in
    let has = subst (λ (r : Row). slice_get e.rows c.in-Some.place ≡ Some r) (sym same) x.1 in
    let covers = subst (λ (r : Row). CoversPattern e r c.args.pattern) (sym same) x.2 in
    let bits = c.general_bits-general.ensures ∙ (ap (λ (rs : List Register). general_bits rs) c.as_slice.ensures
    ∙ checked_general g.W.Word.BITS e c.said_is_limited.ensures c.raw-d.ensures.checked c.general_bits_are_a_sum.ensures) in
    subst (λ (d : RawDescription). IfOk c.row_instance.result (IsInstanceOf d (frame_of d.word c.args.rows.now.frame) c.args.pattern (on_temporaries 0 1 c.args.number 0 c.args.label)))
    c.raw-d.ensures.description
    (make_instance g.W.Word.BITS e c.args.rows.now c.args.pattern (on_temporaries 0 1 c.args.number 0 c.args.label) c.general_bits-general.result c.in-Some.place
    c.index-as_slice-from.result c.in_ok-transfer.transfer c.row_instance.result c.said_is_sound.ensures c.raw-d.ensures.checked rows has covers bits
    c.in_ok-transfer.ensures c.row_instance.ensures.doing)
