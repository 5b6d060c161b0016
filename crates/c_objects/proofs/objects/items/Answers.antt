use Rattle.std.proofs.Common.{refl, sym, ap, ◌∙◌, List, length}
use Rattle.c_tree.specs.declared.syntax.Item.{Item}
use Rattle.c_typing.specs.Statements as spec
use Rattle.c_scopes.specs.Here.{here_of}
use Rattle.c_objects.specs.Within.{within_of}
use Rattle.c_scopes.proofs.Steps.{joined_end, drop_end, next_item, tree_step, here_step, told_step}
use Rattle.c_objects.proofs.objects.items.Goals as goal

pub loop-i-preserved : goal.loop-i-preserved
loop-i-preserved g c =
    let w = within_of g.W.Word.BITS c.args.functions.now in
    let one = λ (h : spec.Here) (x : Item). spec.item w c.args.around h c.args.of x in
    let all = λ (h : spec.Here) (xs : List Item). spec.items w c.args.around h c.args.of xs in
    let next = next_item c.loop-i.i-index c.args.list.now c.i-item.result c.loop-i-test.true c.i-item.is in
    record {
      tree = tree_step one all (λ h x xs. refl) _ _ _ next _ _ c.in_ok-r.ensures.here _ _ _ _ c.loop-i.invariant.tree c.in_ok-r.ensures.tree c.in_ok-more.ensures;
      here = here_step one all (λ h x xs. refl) _ _ _ next _ _ c.in_ok-r.ensures.here _ c.loop-i.invariant.here;
      told = told_step one all (λ h x xs. refl) _ _ _ next _ _ c.in_ok-r.ensures.here _ _ _ c.loop-i.invariant.told c.in_ok-r.ensures.told;
    }

pub returns-clause-tree : goal.returns-clause-tree
returns-clause-tree g c =
    let w = within_of g.W.Word.BITS c.args.functions.now in
    let rest = λ (xs : List Item). spec.joined c.loop-i.trees (spec.items w c.args.around (here_of c.loop-i.state) c.args.of xs).tree in
    sym (joined_end c.loop-i.trees) ∙ ap rest (sym (drop_end c.loop-i.i-index c.args.list.now c.loop-i-test.false)) ∙ c.loop-i.invariant.tree
