use Rattle.std.proofs.Common.{◌+◌, ◌≤◌, length, subst}
use Rattle.std.specs.Option.{unwrap_or}
use Rattle.rtl_tree.specs.Trees.{NoPair}
use Rattle.rtl_spelling.specs.Holes.{leaf_named}
use Rattle.md_expand.specs.Meant.{IsMeant}
use Rattle.md_text.specs.Pieces.{slots}
use Rattle.md_text.specs.Expansion.{holes_from}
use Rattle.md_forms.specs.Seen.{pieces_of, declarations_of}
use Rattle.md_expand.proofs.MeantTrees.{one_name_more}
use Rattle.md_expand.proofs.meanings.slot_leaves.Goals as goal

pub loop-name-preserved : goal.loop-name-preserved
loop-name-preserved c =
    let w = c.args.scope.now.width in
    let ds = declarations_of c.args.scope.now.all.now in
    let holes = slots (pieces_of c.args.text.now) in
    let l = c.loop-name in
    one_name_more (c.args.number + length holes ≤ 256) (holes_from w ds c.args.number holes) c.args.names.now l.name-index c.name-item.result
    l.leaves.items c.push.new.self.items c.in_ok-slot_leaf.field-0 c.loop-name-test.true c.name-item.is l.invariant
    (subst (λ name. IsMeant (c.args.number + length holes ≤ 256) (unwrap_or (leaf_named (holes_from w ds c.args.number holes) name) NoPair) c.in_ok-slot_leaf.field-0) c.as_slice.ensures c.in_ok-slot_leaf.ensures)
    c.in_ok-push.ensures.items
