use Rattle.std.proofs.Common.{◌≡◌, ◌+◌, ◌≤◌, [], length, sym, subst, arith}
use Rattle.std.specs.Option.{unwrap_or}
use Rattle.std.proofs.lemmas.List.{nil_from_length}
use Rattle.rtl_tree.specs.Trees.{NoPair}
use Rattle.rtl_spelling.specs.Holes.{leaf_named}
use Rattle.md_text.specs.Pieces.{slots}
use Rattle.md_text.specs.Expansion.{holes_from}
use Rattle.md_forms.specs.Seen.{pieces_of, declarations_of}
use Rattle.md_expand.specs.Meant.{IsMeant}
use Rattle.md_expand.proofs.MeantTrees.{none_meant}
use Rattle.md_expand.proofs.meanings.+slot_leaf.Goals as goal

pub returns-in-empty : goal.returns-in-empty
returns-in-empty t c =
    let w = c.args.scope.now.width in
    let ds = declarations_of c.args.scope.now.all.now in
    let none : [] ≡ c.args.text.now = sym (nil_from_length c.args.text.now (omega (arith, c.in-empty.len_below))) in
    subst
    (λ ps. IsMeant (c.args.number + length (slots (pieces_of ps)) ≤ 256)
    (unwrap_or (leaf_named (holes_from w ds c.args.number (slots (pieces_of ps))) c.args.name.now) NoPair) c.no_meaning.result)
    none (none_meant _ c.no_meaning.result c.no_meaning.ensures.tree c.no_meaning.ensures.register)
