use Rattle.std.proofs.Common.{◌≡◌, ℕ, ◌+◌, ◌≤◌, subst, arith}
use Rattle.std.specs.Option.{unwrap_or}
use Rattle.rtl_tree.specs.Trees.{NoPair}
use Rattle.rtl_spelling.specs.Holes.{leaf_named}
use Rattle.md_text.specs.Pieces.{slots}
use Rattle.md_text.specs.Expansion.{meant}
use Rattle.md_forms.specs.Seen.{pieces_of, declarations_of}
use Rattle.md_expand.specs.Meant.{IsMeant}
use Rattle.md_expand.specs.Fillings.{all_seen, hole_total}
use Rattle.md_expand.proofs.MeantTrees.{one_name_more}
use Rattle.md_expand.proofs.meanings.row_leaves.Goals as goal

pub loop-name-preserved : goal.loop-name-preserved
loop-name-preserved c =
    let w = c.args.scope.now.width in
    let ds = declarations_of c.args.scope.now.all.now in
    let few : Type 0 = hole_total w ds c.args.chosen.now ≤ 256 in
    let holes = meant 0 (slots (pieces_of c.args.text.now)) (all_seen w ds c.args.chosen.now) in
    let l = c.loop-name in
    let from_zero : 0 + hole_total w ds c.args.chosen.now ≡ hole_total w ds c.args.chosen.now = omega arith in
    one_name_more few holes c.args.names.now l.name-index c.name-item.result l.leaves.items c.push.new.self.items c.in_ok-row_leaf.field-0
    c.loop-name-test.true c.name-item.is l.invariant
    (subst (λ name. IsMeant few (unwrap_or (leaf_named holes name) NoPair) c.in_ok-row_leaf.field-0) c.as_slice.ensures
    (subst (λ (n : ℕ). IsMeant (n ≤ 256) (unwrap_or (leaf_named holes c.as_slice.result.now) NoPair) c.in_ok-row_leaf.field-0) from_zero c.in_ok-row_leaf.ensures))
    c.in_ok-push.ensures.items
