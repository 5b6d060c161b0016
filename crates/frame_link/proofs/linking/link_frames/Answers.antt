use Rattle.std.proofs.Common.{List, refl, subst}
use Rattle.std.specs.Prelude.{AllPairs}
use Rattle.rtl_value.specs.declared.state.LabelAt.{LabelAt}
use Rattle.md_rows.specs.declared.description.RawDescription.{RawDescription}
use Rattle.frame_link.specs.Tested.{HoldsLabels, Differ, IsTested, assembled}
use Rattle.frame_link.proofs.Made.{are_framed, is_assembled, is_printable, is_linked, prints}
use Rattle.frame_link.proofs.linking.link_frames.Goals as goal

pub linked_lines-requires-clause-framed : goal.linked_lines-requires-clause-framed
linked_lines-requires-clause-framed g c = are_framed c.args.m.now _ c.args.u (c.requires.linkable _ c.new-rows.ensures.frame)

pub linked_lines-requires-clause-realised : goal.linked_lines-requires-clause-realised
linked_lines-requires-clause-realised g c = (c.requires.linkable _ c.new-rows.ensures.frame).realised

pub program_of-requires : goal.program_of-requires
program_of-requires g c =
    let u = c.requires.linkable _ c.new-rows.ensures.frame in
    is_assembled c.raw-d.result.now c.in_ok-standing.standing (assembled c.in_ok-made.made.lines.items c.in_ok-made.made.labels.items c.args.u)
    (c.if-not-is_tested.ensures refl) (subst (λ (ls : List LabelAt). HoldsLabels ls c.in_ok-standing.standing) c.as_slice.ensures.value c.in_ok-standing.ensures.holds)
    (subst (AllPairs Differ) c.as_slice.ensures.value c.in_ok-standing.ensures.differ) u.addresses

pub returns-clause-linked : goal.returns-clause-linked
returns-clause-linked g c =
    is_linked c.args.m.now c.new-rows.result c.args.u c.in_ok-made.made.lines.items c.in_ok-made.made.labels.items c.program_of.result c.program_of.ensures
    c.new-rows.ensures c.in_ok-made.ensures.lines c.in_ok-made.ensures.labels

pub returns-clause-printable : goal.returns-clause-printable
returns-clause-printable g c =
    let m = c.args.m.now in
    let u = c.requires.linkable _ c.new-rows.ensures.frame in
    let p = assembled c.in_ok-made.made.lines.items c.in_ok-made.made.labels.items c.args.u in
    let tested = subst (λ (d : RawDescription). IsTested d c.in_ok-standing.standing p) c.raw-d.ensures.description (c.if-not-is_tested.ensures refl) in
    prints m c.new-rows.result c.args.u c.in_ok-made.made.lines.items c.in_ok-made.made.labels.items c.program_of.result c.program_of.ensures
    (is_printable m c.in_ok-standing.standing p tested c.in_ok-made.ensures.rows u.image.room u.image.bytes)
