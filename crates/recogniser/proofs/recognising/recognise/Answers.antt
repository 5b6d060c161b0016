use Rattle.std.proofs.Common.{ap, subst, ◌∙◌, List}
use Rattle.std.specs.Prelude.{IfNone, IfSome}
use Rattle.rtl_tree.specs.Sets.{bits_of}
use Rattle.md_rows.specs.declared.description.RawDescription.{RawDescription}
use Rattle.md_rows.specs.declared.description.Register.{Register}
use Rattle.md_rows.specs.declared.instance.Instance.{Instance}
use Rattle.md_covers.specs.Covers.{general_bits}
use Rattle.recogniser.specs.Recognising.{DoesTransfer, IsFirst}
use Rattle.recogniser.proofs.Descriptions.{checked_sound, checked_general}
use Rattle.recogniser.proofs.FirstInstance.{some_first, none_at_all, some_instance}
use Rattle.recogniser.proofs.recognising.recognise.Goals as goal

pub first_instance-requires : goal.first_instance-requires
first_instance-requires g c =
    let d = c.raw-description.result.now in
    let w = g.W.Word.BITS in
    record {
      sound = checked_sound w d c.said_is_sound.ensures c.said_is_limited.ensures c.raw-description.ensures.checked;
      general = c.general_bits.ensures ∙ (ap (λ (rs : List Register). general_bits rs) c.as_slice.ensures
          ∙ checked_general w d c.said_is_limited.ensures c.raw-description.ensures.checked c.general_bits_are_a_sum.ensures);
    }

pub returns-clause-first : goal.returns-clause-first
returns-clause-first g c =
    let d = c.raw-description.result.now in
    let sound = checked_sound g.W.Word.BITS d c.said_is_sound.ensures c.said_is_limited.ensures c.raw-description.ensures.checked in
    subst (λ (e : RawDescription). IfSome c.first_instance.result (IsFirst e (bits_of c.args.dead.now) c.args.e.now)) c.raw-description.ensures.description
    (some_first d (bits_of c.args.dead.now) c.flags_of.result c.args.e.now c.first_instance.result sound c.flags_of.ensures c.first_instance.ensures)

pub returns-clause-instance : goal.returns-clause-instance
returns-clause-instance g c =
    some_instance c.args.m.now (bits_of c.args.dead.now) c.args.e.now c.first_instance.result (returns-clause-first g c)

pub returns-clause-none : goal.returns-clause-none
returns-clause-none g c =
    subst (λ (e : RawDescription). IfNone c.first_instance.result ((i : Instance) → ¬ DoesTransfer e (bits_of c.args.dead.now) c.args.e.now i))
    c.raw-description.ensures.description
    (none_at_all c.raw-description.result.now (bits_of c.args.dead.now) c.flags_of.result c.args.e.now c.first_instance.result c.flags_of.ensures c.first_instance.ensures)
