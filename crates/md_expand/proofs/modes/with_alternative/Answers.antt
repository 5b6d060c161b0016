use Rattle.std.proofs.Common.{refl, ap}
use Rattle.md_forms.specs.Seen.{form_of}
use Rattle.md_expand.proofs.ModeFillings.{with_one}
use Rattle.md_expand.proofs.Outcomes.{if_ok_then}
use Rattle.md_expand.proofs.modes.with_alternative.Goals as goal

pub returns-in-ModeLine : goal.returns-in-ModeLine
returns-in-ModeLine c =
    if_ok_then _ _ c.with_filling.result
    (λ more e. λ w ds name.
    with_one w ds name c.in-ModeLine.name _ c.in-ModeLine.text c.in-ModeLine.tree (form_of c.args.form.now) _ _ c.as_slice.result _
    (ap form_of c.in-ModeLine.is) c.as_slice-in-ModeLine.ensures c.as_slice.ensures refl (e name)) c.with_filling.ensures
