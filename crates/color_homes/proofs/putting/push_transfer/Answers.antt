use Rattle.std.proofs.Common.{subst, sym, ◌∙◌, All}
use Rattle.md_rows.specs.declared.description.RawDescription.{RawDescription}
use Rattle.md_check.specs.Checking.{IsChecked}
use Rattle.temp_code.specs.Routines.{routine_of}
use Rattle.color_homes.specs.Spilled.{register_in}
use Rattle.color_homes.specs.Loading.{CanSpill}
use Rattle.color_homes.proofs.Facts.{facts_of, target_is, all_put}
use Rattle.color_homes.proofs.putting.push_transfer.Goals as goal

pub push_loaded-requires-clause-general : goal.push_loaded-requires-clause-general
push_loaded-requires-clause-general g c =
    (facts_of c.args.m.now c.args.places.now c.args.transfer.now g.W.Word.BITS c.as_slice-standing.result.now c.said_is_sound.ensures c.said_is_limited.ensures
    c.said_is_bounded.ensures c.general_bits_are_a_sum.ensures (subst (λ (d : RawDescription). IsChecked g.W.Word.BITS d) c.raw-d.ensures.description c.raw-d.ensures.checked)
    (c.as_slice-standing.ensures ∙ c.in_ok-list.ensures) c.requires.places c.requires.realised c.requires.put).put_in

pub push_loaded-requires-clause-separate : goal.push_loaded-requires-clause-separate
push_loaded-requires-clause-separate g c =
    (facts_of c.args.m.now c.args.places.now c.args.transfer.now g.W.Word.BITS c.as_slice-standing.result.now c.said_is_sound.ensures c.said_is_limited.ensures
    c.said_is_bounded.ensures c.general_bits_are_a_sum.ensures (subst (λ (d : RawDescription). IsChecked g.W.Word.BITS d) c.raw-d.ensures.description c.raw-d.ensures.checked)
    (c.as_slice-standing.ensures ∙ c.in_ok-list.ensures) c.requires.places c.requires.realised c.requires.put).separate

pub push_loaded-requires-clause-can : goal.push_loaded-requires-clause-can
push_loaded-requires-clause-can g c =
    (facts_of c.args.m.now c.args.places.now c.args.transfer.now g.W.Word.BITS c.as_slice-standing.result.now c.said_is_sound.ensures c.said_is_limited.ensures
    c.said_is_bounded.ensures c.general_bits_are_a_sum.ensures (subst (λ (d : RawDescription). IsChecked g.W.Word.BITS d) c.raw-d.ensures.description c.raw-d.ensures.checked)
    (c.as_slice-standing.ensures ∙ c.in_ok-list.ensures) c.requires.places c.requires.realised c.requires.put).can_load

pub push_stores-requires-clause-can : goal.push_stores-requires-clause-can
push_stores-requires-clause-can g c =
    subst (All (CanSpill c.args.m.now (routine_of c.args.places.now.code.now) (register_in c.args.places.now c.as_slice-standing.result.now)))
    (sym (c.as_slice.ensures ∙ c.in_ok-results.ensures))
    (facts_of c.args.m.now c.args.places.now c.args.transfer.now g.W.Word.BITS c.as_slice-standing.result.now c.said_is_sound.ensures c.said_is_limited.ensures
    c.said_is_bounded.ensures c.general_bits_are_a_sum.ensures (subst (λ (d : RawDescription). IsChecked g.W.Word.BITS d) c.raw-d.ensures.description c.raw-d.ensures.checked)
    (c.as_slice-standing.ensures ∙ c.in_ok-list.ensures) c.requires.places c.requires.realised c.requires.put).can_store

pub returns : goal.returns
returns g c =
    all_put c.args.m.now c.args.places.now c.args.transfer.now
    c.renamed_is_plain.ensures c.middles_are_straight.ensures
    (target_is c.args.m.now c.args.places.now c.args.transfer.now g.W.Word.BITS c.targets_are_sound.ensures
    (subst (λ (d : RawDescription). IsChecked g.W.Word.BITS d) c.raw-d.ensures.description c.raw-d.ensures.checked) c.requires.places)
    c.as_slice-standing.result.now
    (facts_of c.args.m.now c.args.places.now c.args.transfer.now g.W.Word.BITS c.as_slice-standing.result.now c.said_is_sound.ensures c.said_is_limited.ensures
    c.said_is_bounded.ensures c.general_bits_are_a_sum.ensures (subst (λ (d : RawDescription). IsChecked g.W.Word.BITS d) c.raw-d.ensures.description c.raw-d.ensures.checked)
    (c.as_slice-standing.ensures ∙ c.in_ok-list.ensures) c.requires.places c.requires.realised c.requires.put)
    c.args.body.now c.push_loaded.new.body c.push.new.self c.push_stores.new.body c.in_ok-made.made c.as_slice.result.now c.in_ok-made.ensures.renamed c.in_ok-made.ensures.realised
    c.in_ok-made.ensures.loads c.in_ok-push.ensures.ok (c.as_slice.ensures ∙ c.in_ok-results.ensures) c.push_stores.result c.push_stores.ensures
