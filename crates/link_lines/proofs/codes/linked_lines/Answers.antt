use Rattle.std.proofs.Common.{◌≡◌, [], ◌++◌, List, length, sym, subst}
use Rattle.rtl_value.specs.declared.state.LabelAt.{LabelAt}
use Rattle.md_rows.specs.declared.description.RawDescription.{RawDescription}
use Rattle.md_rows.specs.declared.instance.Instance.{Instance}
use Rattle.temp_code.specs.declared.code.Code.{Code}
use Rattle.temp_shapes.specs.Rows.{AreShapeRows}
use Rattle.link_lines.specs.Lines.{AreAddedCovered, Writes, start_of, labels_of_codes}
use Rattle.link_lines.proofs.Coding.{labels_made}
use Rattle.link_lines.proofs.codes.linked_lines.Goals as goal

pub push_start-requires-clause-covered : goal.push_start-requires-clause-covered
push_start-requires-clause-covered g c =
    subst (λ (d : RawDescription). AreAddedCovered d c.args.rows.now) c.raw-d.ensures.description
    (c.added_are_covered.ensures g.W.Word.BITS c.raw-d.result.now c.args.rows.now c.raw-d.ensures.checked
    (subst (λ (d : RawDescription). AreShapeRows d c.args.rows.now) (sym c.raw-d.ensures.description) c.requires.rows))

pub push_codes-requires-clause-covered : goal.push_codes-requires-clause-covered
push_codes-requires-clause-covered g c =
    subst (λ (d : RawDescription). AreAddedCovered d c.args.rows.now) c.raw-d.ensures.description
    (c.added_are_covered.ensures g.W.Word.BITS c.raw-d.result.now c.args.rows.now c.raw-d.ensures.checked
    (subst (λ (d : RawDescription). AreShapeRows d c.args.rows.now) (sym c.raw-d.ensures.description) c.requires.rows))

pub returns-clause-labels : goal.returns-clause-labels
returns-clause-labels g c =
    let m = c.args.m.now in
    let t = c.args.rows.now in
    let started = c.push_start.new.lines.items in
    let labels = c.push_codes.new.written.labels.items in
    labels_made m t c.args.unit.now (c.codes_are_linked.ensures m t c.args.unit.now c.requires.different) c.args.main c.requires.main started
    (subst (λ (xs : List Instance). Writes m xs started (start_of m t c.args.main)) c.new.ensures.items c.in_ok-push_start.ensures) labels
    (subst (λ (cs : List Code). labels ≡ [] ++ labels_of_codes m t (length started) cs) c.as_slice.ensures
    (subst (λ (xs : List LabelAt). labels ≡ xs ++ labels_of_codes m t (length started) c.as_slice.result.now) c.new-2.ensures.items
    c.in_ok-push_codes.ensures.labels))
