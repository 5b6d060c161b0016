use Rattle.std.proofs.Common.{◌≡◌, ◌++◌, map, take}
use Rattle.md_text.specs.Expansion.{shown}
use Rattle.md_forms.specs.Seen.{declarations_of, pieces_of}
use Rattle.md_expand.specs.Seen.{all_shown}
use Rattle.md_expand.proofs.shown.push_shown.Given as goal

abbrev pub invariant-loop-piece : goal.invariant-loop-piece
invariant-loop-piece l =
    all_shown l.into.items ≡ all_shown l.initial.into.items ++ map (shown l.scope.width (declarations_of l.scope.all.now)) (pieces_of (take l.piece-index l.text))
