use Rattle.std.proofs.Common.{sym, ◌∙◌}
use Rattle.md_text.specs.Rules.{is_reserved_piece}
use Rattle.md_forms.specs.Seen.{piece_of}
use Rattle.md_rules.proofs.Lists.{list_any-map}
use Rattle.md_rules.proofs.reserved.has_reserved_piece.Goals as goal

pub returns : goal.returns
returns c = c.any_reserved_piece.ensures ∙ sym (list_any-map is_reserved_piece piece_of c.args.text.now)
