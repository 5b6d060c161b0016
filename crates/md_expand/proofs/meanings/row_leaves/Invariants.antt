use Rattle.std.proofs.Common.{◌≤◌, take}
use Rattle.md_text.specs.Pieces.{slots}
use Rattle.md_text.specs.Expansion.{meant, leaves_by}
use Rattle.md_forms.specs.Seen.{pieces_of, declarations_of}
use Rattle.md_expand.specs.Fillings.{all_seen, hole_total}
use Rattle.md_expand.specs.Meant.{AllMeant}
use Rattle.md_expand.proofs.meanings.row_leaves.Given as goal

abbrev pub invariant-loop-name : goal.invariant-loop-name
invariant-loop-name l =
    let w = l.scope.width in
    let ds = declarations_of l.scope.all.now in
    AllMeant (hole_total w ds l.chosen ≤ 256) (leaves_by (meant 0 (slots (pieces_of l.text)) (all_seen w ds l.chosen)) (take l.name-index l.names)) l.leaves.items
