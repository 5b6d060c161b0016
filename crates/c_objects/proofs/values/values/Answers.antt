use Rattle.std.proofs.Common.{◌+◌, refl, ap, sym, ◌∙◌, map, List}
use Rattle.c_tree.specs.declared.syntax.Expr.{Expr}
use Rattle.c_typing.specs.Statements as spec
use Rattle.c_scopes.specs.Here.{at_names}
use Rattle.c_objects.specs.Within.{within_of}
use Rattle.c_scopes.proofs.Steps.{next_item, drop_end, joined_end, values_step, values_told}
use Rattle.c_objects.proofs.values.values.Goals as goal

pub loop-e-preserved : goal.loop-e-preserved
loop-e-preserved g c =
    let f = spec.value_at (within_of g.W.Word.BITS c.args.functions.now) (at_names c.args.names.now) in
    let next = next_item c.loop-e.e-index c.args.list.now c.e-item.result c.loop-e-test.true c.e-item.is in
    record {
      index = ap (λ n. n + 1) c.loop-e.invariant.index;
      trees = values_step c.args.of f _ _ _ next _ _ _ _ c.loop-e.invariant.trees c.in_ok-one.ensures.tree c.in_ok-more.ensures;
      told = values_told c.args.of f _ _ _ next c.args.extent _ _ _ _ _ c.loop-e.invariant.told c.in_ok-one.ensures.told refl;
    }

pub returns-clause-trees : goal.returns-clause-trees
returns-clause-trees g c =
    let f = spec.value_at (within_of g.W.Word.BITS c.args.functions.now) (at_names c.args.names.now) in
    let rest = λ (xs : List Expr). spec.joined c.loop-e.trees (spec.values c.args.of (map f xs)) in
    sym (joined_end c.loop-e.trees) ∙ ap rest (sym (drop_end c.loop-e.e-index c.args.list.now c.loop-e-test.false)) ∙ c.loop-e.invariant.trees
