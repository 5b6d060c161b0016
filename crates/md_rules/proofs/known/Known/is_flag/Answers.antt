use Rattle.std.proofs.Common.{◌∙◌, ap, ◌||◌, ◌==◌}
use Rattle.std.specs.List.{list_any}
use Rattle.std.specs.Str.{bytes_eq}
use Rattle.md_text.specs.Declarations.{flags_in}
use Rattle.md_forms.specs.Seen.{declarations_of}
use Rattle.md_rules.specs.Names.{key_of_flag}
use Rattle.md_rules.proofs.Keys.{keyed}
use Rattle.md_rules.proofs.known.Known.is_flag.Goals as goal

pub returns : goal.returns
returns c =
    let s = c.args.self.now in
    c.has_either.ensures ∙ ap (list_any (λ n. n.number == c.args.number || bytes_eq n.name.now c.args.name.now)) c.deref.ensures.value
    ∙ keyed (λ p. p.0 == c.args.number || bytes_eq p.1 c.args.name.now) s.flags.items key_of_flag (flags_in (declarations_of s.before.now)) s.has_flags
