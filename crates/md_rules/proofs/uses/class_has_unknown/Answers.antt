use Rattle.std.proofs.Common.{sym, ap, ◌∙◌, not}
use Rattle.std.specs.List.{list_any}
use Rattle.std.specs.Str.{bytes_eq}
use Rattle.std.proofs.Common.{map}
use Rattle.md_text.specs.Pieces.{has_name}
use Rattle.md_text.specs.Declarations.{registers_in}
use Rattle.md_forms.specs.Seen.{declarations_of}
use Rattle.md_rules.proofs.Lists.{list_any-map, list_any-same}
use Rattle.md_rules.proofs.uses.class_has_unknown.Goals as goal

pub returns : goal.returns
returns c =
    let rs = registers_in (declarations_of c.args.known.now.before.now) in
    c.has_unknown_register.ensures
    ∙ list_any-same (λ r. not (list_any (λ s. bytes_eq s.name r) rs)) (λ r. not (has_name (map (λ s. s.name) rs) r)) c.args.names.now
    (λ r. ap not (sym (list_any-map (λ other. bytes_eq other r) (λ s. s.name) rs)))
