use Rattle.std.proofs.Common.{subst, ◌∙◌}
use Rattle.md_rows.specs.declared.description.RawDescription.{RawDescription}
use Rattle.md_check.specs.Checking.{IsChecked}
use Rattle.color_homes.proofs.Facts.{facts_of, target_is, loads_put}
use Rattle.color_homes.proofs.putting.push_operands.Goals as goal

pub push_loaded-requires-clause-general : goal.push_loaded-requires-clause-general
push_loaded-requires-clause-general g c =
    (facts_of c.args.m.now c.args.places.now c.args.transfer.now g.W.Word.BITS c.as_slice-standing.result.now c.said_is_sound.ensures c.said_is_limited.ensures
    c.said_is_bounded.ensures c.general_bits_are_a_sum.ensures (subst (λ (d : RawDescription). IsChecked g.W.Word.BITS d) c.raw-d.ensures.description c.raw-d.ensures.checked)
    (c.as_slice-standing.ensures ∙ c.in_ok-list.ensures) c.requires.places c.requires.realised c.requires.put).put_in

pub push_loaded-requires-clause-separate : goal.push_loaded-requires-clause-separate
push_loaded-requires-clause-separate g c =
    (facts_of c.args.m.now c.args.places.now c.args.transfer.now g.W.Word.BITS c.as_slice-standing.result.now c.said_is_sound.ensures c.said_is_limited.ensures
    c.said_is_bounded.ensures c.general_bits_are_a_sum.ensures (subst (λ (d : RawDescription). IsChecked g.W.Word.BITS d) c.raw-d.ensures.description c.raw-d.ensures.checked)
    (c.as_slice-standing.ensures ∙ c.in_ok-list.ensures) c.requires.places c.requires.realised c.requires.put).separate

pub push_loaded-requires-clause-can : goal.push_loaded-requires-clause-can
push_loaded-requires-clause-can g c =
    (facts_of c.args.m.now c.args.places.now c.args.transfer.now g.W.Word.BITS c.as_slice-standing.result.now c.said_is_sound.ensures c.said_is_limited.ensures
    c.said_is_bounded.ensures c.general_bits_are_a_sum.ensures (subst (λ (d : RawDescription). IsChecked g.W.Word.BITS d) c.raw-d.ensures.description c.raw-d.ensures.checked)
    (c.as_slice-standing.ensures ∙ c.in_ok-list.ensures) c.requires.places c.requires.realised c.requires.put).can_load

pub returns : goal.returns
returns g c =
    loads_put c.args.m.now c.args.places.now c.args.transfer.now
    c.renamed_is_plain.ensures c.middles_are_straight.ensures
    (target_is c.args.m.now c.args.places.now c.args.transfer.now g.W.Word.BITS c.targets_are_sound.ensures
    (subst (λ (d : RawDescription). IsChecked g.W.Word.BITS d) c.raw-d.ensures.description c.raw-d.ensures.checked) c.requires.places)
    c.as_slice-standing.result.now
    (facts_of c.args.m.now c.args.places.now c.args.transfer.now g.W.Word.BITS c.as_slice-standing.result.now c.said_is_sound.ensures c.said_is_limited.ensures
    c.said_is_bounded.ensures c.general_bits_are_a_sum.ensures (subst (λ (d : RawDescription). IsChecked g.W.Word.BITS d) c.raw-d.ensures.description c.raw-d.ensures.checked)
    (c.as_slice-standing.ensures ∙ c.in_ok-list.ensures) c.requires.places c.requires.realised c.requires.put)
    c.args.body.now c.push_loaded.new.body c.requires.no_result c.push_loaded.result c.push_loaded.ensures.loads c.push_loaded.ensures.renamed c.push_loaded.ensures.realised
