use Rattle.std.proofs.Common.{◌+◌, ◌*◌, length, take}
use Rattle.md_text.specs.Pieces.{slots}
use Rattle.md_forms.specs.Seen.{pieces_of, declarations_of}
use Rattle.md_expand.specs.Product.{Writes}
use Rattle.md_expand.proofs.Choices.{rows_by}
use Rattle.md_expand.proofs.product.+choices.Given as goal

abbrev pub decreases-expand_pieces : goal.decreases-expand_pieces
decreases-expand_pieces l = 3 * length l.rest.now

abbrev pub decreases-expand_filled : goal.decreases-expand_filled
decreases-expand_filled l = 3 * length l.rest.now + 1

abbrev pub decreases-expand_hole : goal.decreases-expand_hole
decreases-expand_hole l = 3 * length l.rest.now + 2

abbrev pub invariant-expand_hole-loop-filling : goal.invariant-expand_hole-loop-filling
invariant-expand_hole-loop-filling l =
    Writes l.limit (rows_by l.scope.width (declarations_of l.scope.all.now) l.row l.initial.progress.chosen.items (slots (pieces_of l.rest)) (take l.filling-index l.found))
    l.initial.progress l.progress
