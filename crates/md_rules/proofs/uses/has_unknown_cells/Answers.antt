use Rattle.std.proofs.Common.{sym, ◌∙◌}
use Rattle.md_text.specs.Rules.{is_unknown_cell, cells_of_said}
use Rattle.md_forms.specs.Seen.{declarations_of}
use Rattle.md_rules.proofs.Lists.{list_any-flat_map}
use Rattle.md_rules.proofs.uses.has_unknown_cells.Goals as goal

pub returns : goal.returns
returns c =
    c.any_unknown_cell.ensures ∙ sym (list_any-flat_map (is_unknown_cell (declarations_of c.args.known.now.before.now)) cells_of_said c.args.moves.now)
