use Rattle.std.proofs.Common.{◌+◌, ◌≤◌, length, ap, ◌∙◌, subst}
use Rattle.std.specs.Prelude.{IfOk}
use Rattle.rtl_tree.specs.Trees.{tree_of}
use Rattle.md_text.specs.Pieces.{slots}
use Rattle.md_text.specs.Forms.{OpenTree}
use Rattle.md_text.specs.Expansion.{holes_from, leaves_by, with_leaves}
use Rattle.md_forms.specs.Seen.{pieces_of, declarations_of}
use Rattle.md_expand.specs.Meant.{IsMeant, AllMeant, register_in}
use Rattle.md_expand.specs.Seen.{trees_of}
use Rattle.md_expand.proofs.MeantTrees.{meant_with}
use Rattle.md_expand.proofs.Outcomes.{if_ok_both}
use Rattle.md_expand.proofs.meanings.alternative_meaning.Goals as goal

pub returns : goal.returns
returns c =
    let w = c.args.scope.now.width in
    let ds = declarations_of c.args.scope.now.all.now in
    let holes = holes_from w ds c.args.number (slots (pieces_of c.args.text.now)) in
    let few : Type 0 = c.args.number + length (slots (pieces_of c.args.text.now)) ≤ 256 in
    let leaves = c.in_ok-leaves.leaves.items in
    let inside = c.tree.inside in
    let all : AllMeant few (leaves_by holes inside.names) leaves =
    subst (λ names. AllMeant few (leaves_by holes names) leaves) c.as_slice.ensures c.in_ok-leaves.ensures in
    subst (λ (t : OpenTree). IfOk c.meaning_with.result (IsMeant few (with_leaves (leaves_by holes t.names) t.tree))) c.tree.view_is
    (if_ok_both _ _ _ c.meaning_with.result
    (λ m tree register. meant_with few (leaves_by holes inside.names) leaves (tree_of inside.tree) m all
    (tree ∙ ap (λ ms. with_leaves (trees_of ms) (tree_of inside.tree)) c.deref.ensures.value)
    (register ∙ ap (λ ms. register_in ms (tree_of inside.tree)) c.deref.ensures.value))
    c.meaning_with.ensures.tree c.meaning_with.ensures.register)
