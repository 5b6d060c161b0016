use Rattle.std.proofs.Common.{rules, ◌≡◌, ◌<◌, ◌^◌, sym, subst, Some}
use Rattle.rtl_value.specs.Values.{place_of_label, number_or_zero}
use Rattle.rtl_value.proofs.Places.{label_below}
use Rattle.rtl_value.proofs.evaluation.label.Goals as goal

pub returns-clause-fits : goal.returns-clause-fits
returns-clause-fits g c =
    let below = label_below g.W.Word.BITS c.args.s.now.labels c.args.l c.requires.sound.labels in
    let there : Some c.in-Some.at ≡ place_of_label c.args.s.now.labels c.args.l = search rules in
    subst (λ o. number_or_zero o < 2 ^ g.W.Word.BITS) (sym there) below
