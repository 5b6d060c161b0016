use Rattle.std.proofs.Common.{subst, refl}
use Rattle.md_rows.specs.declared.description.RawDescription.{RawDescription}
use Rattle.md_check.specs.Checking.{IsChecked}
use Rattle.color_homes.specs.Spilled.{register_in}
use Rattle.color_homes.proofs.Renaming.{is_of, renamed, realised}
use Rattle.color_homes.proofs.middles.middle.Goals as goal

pub effects_of-requires : goal.effects_of-requires
effects_of-requires g c =
    is_of c.registers_put_in.ensures g.W.Word.BITS c.args.m.now c.args.transfer.now (record { row = c.args.transfer.now.by.row; binding = c.in_ok-binding.binding })
    (register_in c.args.places.now c.args.spilled.now)
    (subst (λ (d : RawDescription). IsChecked g.W.Word.BITS d) c.raw-d.ensures.description c.raw-d.ensures.checked) c.requires.realised c.requires.general c.requires.separate refl
    c.in_ok-binding.ensures

pub returns-clause-renamed : goal.returns-clause-renamed
returns-clause-renamed g c =
    renamed c.registers_put_in.ensures g.W.Word.BITS c.args.m.now c.args.transfer.now (record { row = c.args.transfer.now.by.row; binding = c.in_ok-binding.binding })
    (register_in c.args.places.now c.args.spilled.now)
    (subst (λ (d : RawDescription). IsChecked g.W.Word.BITS d) c.raw-d.ensures.description c.raw-d.ensures.checked) c.requires.realised c.requires.general c.requires.separate refl
    c.in_ok-binding.ensures c.in_ok-what.what c.in_ok-what.ensures

pub returns-clause-realised : goal.returns-clause-realised
returns-clause-realised g c =
    realised c.registers_put_in.ensures g.W.Word.BITS c.args.m.now c.args.transfer.now (record { row = c.args.transfer.now.by.row; binding = c.in_ok-binding.binding })
    (register_in c.args.places.now c.args.spilled.now)
    (subst (λ (d : RawDescription). IsChecked g.W.Word.BITS d) c.raw-d.ensures.description c.raw-d.ensures.checked) c.requires.realised c.requires.general c.requires.separate refl
    c.in_ok-binding.ensures c.in_ok-what.what c.in_ok-what.ensures
