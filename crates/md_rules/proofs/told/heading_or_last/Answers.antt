use Rattle.std.proofs.Common.{◌≡◌, length, arith, subst}
use Rattle.std.proofs.lemmas.List.{length-map}
use Rattle.md_text.specs.Heading.{breaks_heading}
use Rattle.md_text.specs.Accepted.{HasBroken}
use Rattle.md_forms.specs.Seen.{declaration_of, declarations_of, declared_of}
use Rattle.md_rules.specs.Least.{IsLeast}
use Rattle.md_rules.proofs.HeadingLines.{least_elsewhere, least_last, least_none}
use Rattle.md_rules.proofs.told.heading_or_last.Goals as goal

pub returns-in-Some : goal.returns-in-Some
returns-in-Some c =
    let d = declared_of c.args.declared.now in
    least_elsewhere d c.in-Some.line c.requires.numbered.lines (subst (IsLeast (HasBroken breaks_heading d.all)) c.in-Some.is c.requires.least)

pub returns-then-len-lt-HEADING : goal.returns-then-len-lt-HEADING
returns-then-len-lt-HEADING c =
    let d = declared_of c.args.declared.now in
    let all = c.args.declared.now.all in
    let same : length (declarations_of all) ≡ length all = length-map all declaration_of in
    least_last d (omega (arith, same, c.len.ensures)) (subst (IsLeast (HasBroken breaks_heading d.all)) c.in-None.is c.requires.least)

pub returns-else-len-lt-HEADING : goal.returns-else-len-lt-HEADING
returns-else-len-lt-HEADING c =
    let d = declared_of c.args.declared.now in
    let all = c.args.declared.now.all in
    let same : length (declarations_of all) ≡ length all = length-map all declaration_of in
    least_none d (omega (arith, same, c.len.ensures)) (subst (IsLeast (HasBroken breaks_heading d.all)) c.in-None.is c.requires.least)
