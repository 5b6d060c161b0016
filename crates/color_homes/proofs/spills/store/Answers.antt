use Rattle.std.proofs.Common.{subst}
use Rattle.md_rows.specs.declared.description.RawDescription.{RawDescription}
use Rattle.md_check.specs.Checking.{IsChecked}
use Rattle.color_homes.proofs.Homes.{store_is}
use Rattle.color_homes.proofs.spills.store.Goals as goal

pub returns : goal.returns
returns g c =
    store_is g.W.Word.BITS c.args.m.now c.args.places.now
    (subst (λ (d : RawDescription). IsChecked g.W.Word.BITS d) c.raw-d.ensures.description c.raw-d.ensures.checked) c.requires.places c.args.register c.args.k c.requires.register
    c.stores_do.ensures c.names_are_shapes.ensures c.homes_are_straight.ensures c.said_is_sound.ensures c.said_is_limited.ensures c.general_bits_are_a_sum.ensures
    c.homes_are_numbers.ensures c.requires.home c.home_transfer.result c.home_transfer.ensures.shape c.home_transfer.ensures.realised
