use Rattle.std.proofs.Common.{◌+◌, ◌≤◌, length, take}
use Rattle.md_text.specs.Pieces.{slots}
use Rattle.md_text.specs.Expansion.{holes_from, leaves_by}
use Rattle.md_forms.specs.Seen.{pieces_of, declarations_of}
use Rattle.md_expand.specs.Meant.{AllMeant}
use Rattle.md_expand.proofs.meanings.slot_leaves.Given as goal

abbrev pub invariant-loop-name : goal.invariant-loop-name
invariant-loop-name l =
    AllMeant (l.number + length (slots (pieces_of l.text)) ≤ 256)
    (leaves_by (holes_from l.scope.width (declarations_of l.scope.all.now) l.number (slots (pieces_of l.text))) (take l.name-index l.names)) l.leaves.items
