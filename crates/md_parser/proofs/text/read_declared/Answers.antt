use Rattle.std.proofs.Common.{◌≡◌, Err, ap, sym, subst, map}
use Rattle.md_text.specs.Accepted.{Told as IsTold}
use Rattle.md_text.proofs.Numbering.{declared_numbered}
use Rattle.md_lines.specs.Kept.{line_of}
use Rattle.md_forms.specs.declared.rules.Rule.TheVariants.{BadByte, OtherVersion, NoForm}
use Rattle.md_forms.specs.Seen.{declarations_of}
use Rattle.md_forms.specs.SeenRules.{rule_of}
use Rattle.md_parser.specs.declared.text.ReadFault.TheVariants.{Told as Given}
use Rattle.md_parser.proofs.FirstTold.{bad_told, version_told, form_told, keeps_rules, text_declares, kept_short, at_slice, as_told}
use Rattle.md_parser.proofs.text.read_declared.Goals as goal

pub declarations-requires-clause-short : goal.declarations-requires-clause-short
declarations-requires-clause-short c =
    kept_short c.args.text.now (map line_of c.as_slice-kept.result.now) c.in-Ok.lines.last (at_slice c.args.text.now _ _ _ c.in-Ok.ensures.kept c.as_slice-kept.ensures.value)

pub returns-in-Err-BadLine-clause-told : goal.returns-in-Err-BadLine-clause-told
returns-in-Err-BadLine-clause-told c = λ t e.
    let same : c.told.result ≡ Given t = cc in
    as_told c.args.text.now BadByte _ t c.told.result c.told.ensures same
    (subst (λ n. IsTold c.args.text.now (rule_of BadByte) n) (sym c.in-Err-BadLine.line-is)
    (bad_told c.args.text.now c.in-Err-BadLine.line (c.in-Err-BadLine.ensures.bad c.in-Err-BadLine.line (ap Err c.in-Err-BadLine.field-0-is))))

pub returns-in-Some-clause-told : goal.returns-in-Some-clause-told
returns-in-Some-clause-told c = λ t e.
    let same : c.told-in-Some.result ≡ Given t = cc in
    as_told c.args.text.now OtherVersion c.in-Some.line t c.told-in-Some.result c.told-in-Some.ensures same
    (version_told c.args.text.now (map line_of c.as_slice-kept.result.now) c.in-Ok.lines.last c.in-Some.line
    (at_slice c.args.text.now _ _ _ c.in-Ok.ensures.kept c.as_slice-kept.ensures.value) c.in-Some.ensures.found)

pub returns-in-Err-NoForm-clause-told : goal.returns-in-Err-NoForm-clause-told
returns-in-Err-NoForm-clause-told c = λ t e.
    let same : c.told-in-Err-NoForm.result ≡ Given t = cc in
    as_told c.args.text.now NoForm c.in-Err-NoForm.line t c.told-in-Err-NoForm.result c.told-in-Err-NoForm.ensures same
    (form_told c.args.text.now (map line_of c.as_slice-kept.result.now) c.in-Ok.lines.last c.width_of-width.result c.in-Err-NoForm.line
    (at_slice c.args.text.now _ _ _ c.in-Ok.ensures.kept c.as_slice-kept.ensures.value) c.in_default.ensures.none c.width_of-width.ensures.width
    (c.in-Err-NoForm.ensures.refused c.in-Err-NoForm.line (ap Err c.in-Err-NoForm.field-0-is)))

pub returns-clause-kept : goal.returns-clause-kept
returns-clause-kept c =
    keeps_rules c.args.text.now (map line_of c.as_slice-kept.result.now) c.in-Ok.lines.last c.width_of-width.result (declarations_of c.in-Ok-declarations.all)
    (at_slice c.args.text.now _ _ _ c.in-Ok.ensures.kept c.as_slice-kept.ensures.value) c.in_default.ensures.none c.width_of-width.ensures.width c.in-Ok-declarations.ensures.found

pub returns-clause-numbered : goal.returns-clause-numbered
returns-clause-numbered c =
    declared_numbered c.args.text.now _ (text_declares c.args.text.now (map line_of c.as_slice-kept.result.now) c.in-Ok.lines.last c.width_of-width.result (declarations_of c.in-Ok-declarations.all)
    (at_slice c.args.text.now _ _ _ c.in-Ok.ensures.kept c.as_slice-kept.ensures.value) c.width_of-width.ensures.width c.in-Ok-declarations.ensures.found)
