use Rattle.std.proofs.Common.{subst}
use Rattle.md_rows.specs.declared.description.RawDescription.{RawDescription}
use Rattle.md_check.specs.Checking.{IsChecked}
use Rattle.color_homes.proofs.Homes.{covered, open_home}
use Rattle.color_homes.proofs.spills.home_transfer.Goals as goal

pub transfer_of-requires-clause-covered : goal.transfer_of-requires-clause-covered
transfer_of-requires-clause-covered g c =
    covered g.W.Word.BITS c.args.m.now c.args.places.now c.args.pattern c.required_covered.ensures
    (subst (λ (d : RawDescription). IsChecked g.W.Word.BITS d) c.raw-d.ensures.description c.raw-d.ensures.checked) c.requires.places c.requires.pattern

pub transfer_of-requires-clause-fit : goal.transfer_of-requires-clause-fit
transfer_of-requires-clause-fit g c =
    open_home g.W.Word.BITS c.args.m.now c.args.places.now
    (subst (λ (d : RawDescription). IsChecked g.W.Word.BITS d) c.raw-d.ensures.description c.raw-d.ensures.checked) c.requires.places c.args.pattern c.args.register c.args.k
    c.home_offset-number.result c.said_is_sound.ensures c.said_is_limited.ensures c.general_bits_are_a_sum.ensures c.homes_are_numbers.ensures c.requires.pattern c.requires.register
    c.requires.home c.home_offset-number.ensures
