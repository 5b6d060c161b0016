use Rattle.std.proofs.Common.{refl, rules}
use Rattle.md_lines.proofs.KindTexts.{name_kind}
use Rattle.md_lines.proofs.kinds.plain_kind.Goals as goal

pub returns-then-is_name-clause-found : goal.returns-then-is_name-clause-found
returns-then-is_name-clause-found c = name_kind c.args.text.now (c.if-is_name.ensures.0 refl) (search rules) (search rules) c.in_default.ensures.none
