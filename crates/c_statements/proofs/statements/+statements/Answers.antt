use Rattle.std.proofs.Common.{rules, ◌≡◌, ◌≤◌, ℕ, Option, Some, None, refl, sym, ap, ◌∙◌, subst, List, length, map}
use Rattle.std.specs.Prelude.{IfOk, OnOk}
use Rattle.c_tree.specs.declared.syntax.Statement.{Statement}
use Rattle.c_tree.specs.declared.syntax.Statement.TheVariants as tree
use Rattle.c_tree.specs.declared.typed.Start as typed
use Rattle.c_tree.specs.declared.typed.Stat.{Stat}
use Rattle.c_tree.specs.declared.typed.TypedExpr.{TypedExpr}
use Rattle.c_tree.specs.declared.typed.Stat.TheVariants as stat
use Rattle.c_typing.specs.declared.names.Around.{Around}
use Rattle.c_typing.specs.declared.names.Fault.{Fault}
use Rattle.c_typing.specs.Faults.{notes}
use Rattle.c_typing.specs.Expressions.{one, two, three, together}
use Rattle.c_typing.specs.Statements as spec
use Rattle.c_typing.proofs.Walks.{list_good}
use Rattle.c_scopes.specs.Here.{here_of}
use Rattle.c_objects.specs.Within.{within_of}
use Rattle.c_scopes.proofs.Steps.{joined_end, drop_end, next_item, tree_step, here_step, told_step}
use Rattle.c_statements.proofs.Scopes.{at_most, fits, left_here}
use Rattle.c_statements.proofs.Arms.{on_ok, if_walk, else_walk, while_walk, do_walk, case_walk, block_walk, for_fits, for_walk, for_whole, default_walk, switch_walk, switch_left}
use Rattle.c_statements.proofs.statements.+statements.Goals as goal

pub sequence-loop-s-preserved : goal.sequence-loop-s-preserved
sequence-loop-s-preserved g t c =
    let w = within_of g.W.Word.BITS c.args.functions.now in
    let one = λ (h : spec.Here) (x : Statement). spec.walk w x c.args.around h in
    let all = λ (h : spec.Here) (xs : List Statement). spec.sequence w c.args.around h (map (spec.walk w) xs) in
    let next = next_item c.loop-s.s-index c.args.list.now c.s-item.result c.loop-s-test.true c.s-item.is in
    record {
      tree = tree_step one all (λ h x xs. refl) _ _ _ next _ _ c.in_ok-r.ensures.here _ _ _ _ c.loop-s.invariant.tree c.in_ok-r.ensures.tree c.in_ok-more.ensures;
      here = here_step one all (λ h x xs. refl) _ _ _ next _ _ c.in_ok-r.ensures.here _ c.loop-s.invariant.here;
      told = told_step one all (λ h x xs. refl) _ _ _ next _ _ c.in_ok-r.ensures.here _ _ _ c.loop-s.invariant.told c.in_ok-r.ensures.told;
    }

pub sequence-leave-requires : goal.sequence-leave-requires
sequence-leave-requires g t c =
    let w = within_of g.W.Word.BITS c.args.functions.now in
    let h = here_of c.args.state in
    let at_end = λ (xs : List Statement). (spec.sequence w c.args.around (here_of c.loop-s.state) (map (spec.walk w) xs)).here in
    let all = (spec.sequence w c.args.around h (map (spec.walk w) c.args.list.now)).here in
    fits c.args.around.start h c.loop-s.state all (list_good w c.args.around h c.args.list.now).extends c.requires
    (ap at_end (sym (drop_end c.loop-s.s-index c.args.list.now c.loop-s-test.false)) ∙ c.loop-s.invariant.here)

pub sequence-returns-clause-here : goal.sequence-returns-clause-here
sequence-returns-clause-here g t c =
    let w = within_of g.W.Word.BITS c.args.functions.now in
    let h = here_of c.args.state in
    let at_end = λ (xs : List Statement). (spec.sequence w c.args.around (here_of c.loop-s.state) (map (spec.walk w) xs)).here in
    let all = (spec.sequence w c.args.around h (map (spec.walk w) c.args.list.now)).here in
    left_here c.args.around.start h c.loop-s.state c.in_ok-state.state all (list_good w c.args.around h c.args.list.now).extends c.requires
    (ap at_end (sym (drop_end c.loop-s.s-index c.args.list.now c.loop-s-test.false)) ∙ c.loop-s.invariant.here)
    c.in_ok-state.ensures.names c.in_ok-state.ensures.rest

pub sequence-returns-clause-tree : goal.sequence-returns-clause-tree
sequence-returns-clause-tree g t c =
    let w = within_of g.W.Word.BITS c.args.functions.now in
    let rest = λ (xs : List Statement). spec.joined c.loop-s.trees (spec.sequence w c.args.around (here_of c.loop-s.state) (map (spec.walk w) xs)).tree in
    sym (joined_end c.loop-s.trees) ∙ ap rest (sym (drop_end c.loop-s.s-index c.args.list.now c.loop-s-test.false)) ∙ c.loop-s.invariant.tree

pub for_loop-behind_for-requires : goal.for_loop-behind_for-requires
for_loop-behind_for-requires g t c =
    let w = within_of g.W.Word.BITS c.args.functions.now in
    let h = here_of c.args.state in
    for_fits w c.args.around h (tree.For c.args.at c.args.start.now c.args.test.now c.args.step.now c.args.a.now) c.args.start.now c.get.result.now c.in_block-inner.result c.looped.result (here_of c.in_ok-parts.state) c.in_ok-a.state
    c.in_block-inner.ensures c.looped.ensures c.in_ok-parts.ensures.here c.in_ok-a.ensures.here

pub block-returns-clause-here : goal.block-returns-clause-here
block-returns-clause-here g t c =
    let w = within_of g.W.Word.BITS c.args.functions.now in
    let h = here_of c.args.state in
    let is : tree.Block c.args.at c.args.list.now ≡ tree.Block c.args.at c.as_slice.result.now = ap (tree.Block c.args.at) (sym c.as_slice.ensures) in
    subst (λ (k : spec.Here). IfOk c.behind_block.result (λ r. here_of r.1 ≡ k))
    (block_walk w c.args.around h (tree.Block c.args.at c.args.list.now) c.args.at c.as_slice.result.now c.in_block-inner.result (here_of c.in_ok-list.state) is c.in_block-inner.ensures c.in_ok-list.ensures.here)
    c.behind_block.ensures.here

pub do_loop-returns-clause-tree : goal.do_loop-returns-clause-tree
do_loop-returns-clause-tree g t c =
    let w = within_of g.W.Word.BITS c.args.functions.now in
    let h = here_of c.args.state in
    let is : tree.DoWhile c.args.at c.args.a.now c.args.e.now ≡ tree.DoWhile c.args.at c.get.result.now c.args.e.now = ap (λ (a : Statement). tree.DoWhile c.args.at a c.args.e.now) (sym c.get.ensures) in
    let x = spec.walk w c.get.result.now c.looped.result h in
    let arm = do_walk w c.args.around h (tree.DoWhile c.args.at c.args.a.now c.args.e.now) c.args.at c.get.result.now c.args.e.now c.looped.result is c.looped.ensures in
    subst (λ (y : Option Stat). IfOk c.behind_do.result (λ r. r.0 ≡ y)) (ap (λ (k : spec.Here). two (spec.do_tree c.args.at) (spec.value_at w k c.args.e.now).seen.tree c.in_ok-a.a) c.in_ok-a.ensures.here
    ∙ ap (two (spec.do_tree c.args.at) (spec.value_at w x.here c.args.e.now).seen.tree) c.in_ok-a.ensures.tree ∙ ap (λ (y : spec.Walked Stat). y.tree) arm) c.behind_do.ensures.tree

pub do_loop-returns-clause-told : goal.do_loop-returns-clause-told
do_loop-returns-clause-told g t c =
    let w = within_of g.W.Word.BITS c.args.functions.now in
    let h = here_of c.args.state in
    let is : tree.DoWhile c.args.at c.args.a.now c.args.e.now ≡ tree.DoWhile c.args.at c.get.result.now c.args.e.now = ap (λ (a : Statement). tree.DoWhile c.args.at a c.args.e.now) (sym c.get.ensures) in
    let x = spec.walk w c.get.result.now c.looped.result h in
    let arm = do_walk w c.args.around h (tree.DoWhile c.args.at c.args.a.now c.args.e.now) c.args.at c.get.result.now c.args.e.now c.looped.result is c.looped.ensures in
    subst (λ (n : Option Fault). OnOk c.behind_do.result (c.behind_do.new.told.first ≡ n))
    (ap (λ (k : spec.Here). notes c.statement.new.told.first (spec.value_at w k c.args.e.now).faults) c.in_ok-a.ensures.here
    ∙ ap (λ (n : Option Fault). notes n (spec.value_at w x.here c.args.e.now).faults) c.in_ok-a.ensures.told
    ∙ ap (λ (y : spec.Walked Stat). notes c.args.told.now.first y.faults) arm) c.behind_do.ensures.told

pub do_loop-returns-clause-here : goal.do_loop-returns-clause-here
do_loop-returns-clause-here g t c =
    let w = within_of g.W.Word.BITS c.args.functions.now in
    let h = here_of c.args.state in
    let is : tree.DoWhile c.args.at c.args.a.now c.args.e.now ≡ tree.DoWhile c.args.at c.get.result.now c.args.e.now = ap (λ (a : Statement). tree.DoWhile c.args.at a c.args.e.now) (sym c.get.ensures) in
    let arm = do_walk w c.args.around h (tree.DoWhile c.args.at c.args.a.now c.args.e.now) c.args.at c.get.result.now c.args.e.now c.looped.result is c.looped.ensures in
    subst (λ (k : spec.Here). IfOk c.behind_do.result (λ r. here_of r.1 ≡ k)) (c.in_ok-a.ensures.here ∙ ap (λ (y : spec.Walked Stat). y.here) arm) c.behind_do.ensures.here

pub for_loop-returns-clause-tree : goal.for_loop-returns-clause-tree
for_loop-returns-clause-tree g t c =
    let w = within_of g.W.Word.BITS c.args.functions.now in
    let h = here_of c.args.state in
    let is : tree.For c.args.at c.args.start.now c.args.test.now c.args.step.now c.args.a.now ≡ tree.For c.args.at c.args.start.now c.args.test.now c.args.step.now c.get.result.now = ap (tree.For c.args.at c.args.start.now c.args.test.now c.args.step.now) (sym c.get.ensures) in
    let b = spec.begun w c.in_block-inner.result h c.args.start.now in
    let x = spec.walk w c.get.result.now c.looped.result in
    let arm = for_whole w c.args.around h (tree.For c.args.at c.args.start.now c.args.test.now c.args.step.now c.args.a.now) c.args.at c.args.start.now c.args.test.now c.args.step.now c.get.result.now c.in_block-inner.result c.looped.result is
    c.in_block-inner.ensures c.looped.ensures in
    subst (λ (y : Option Stat). IfOk c.behind_for.result (λ r. r.0 ≡ y))
    (ap (λ (k : Option (typed.Start × Option TypedExpr × Option TypedExpr)). two (spec.for_tree c.args.at) k c.in_ok-a.a) c.in_ok-parts.ensures.tree
    ∙ ap (two (spec.for_tree c.args.at) (together b.tree (spec.tested w b.here c.args.test.now).0 (spec.stepped w b.here c.args.step.now).0)) (c.in_ok-a.ensures.tree ∙ ap (λ (k : spec.Here). (x k).tree) c.in_ok-parts.ensures.here)
    ∙ ap (λ (y : spec.Walked Stat). y.tree) arm) c.behind_for.ensures.tree

pub for_loop-returns-clause-told : goal.for_loop-returns-clause-told
for_loop-returns-clause-told g t c =
    let w = within_of g.W.Word.BITS c.args.functions.now in
    let h = here_of c.args.state in
    let is : tree.For c.args.at c.args.start.now c.args.test.now c.args.step.now c.args.a.now ≡ tree.For c.args.at c.args.start.now c.args.test.now c.args.step.now c.get.result.now = ap (tree.For c.args.at c.args.start.now c.args.test.now c.args.step.now) (sym c.get.ensures) in
    let b = spec.begun w c.in_block-inner.result h c.args.start.now in
    let x = spec.walk w c.get.result.now c.looped.result in
    let arm = for_whole w c.args.around h (tree.For c.args.at c.args.start.now c.args.test.now c.args.step.now c.args.a.now) c.args.at c.args.start.now c.args.test.now c.args.step.now c.get.result.now c.in_block-inner.result c.looped.result is
    c.in_block-inner.ensures c.looped.ensures in
    on_ok c.behind_for.result (c.in_ok-a.ensures.told ∙ ap (λ (k : spec.Here). notes c.for_parts.new.told.first (x k).faults) c.in_ok-parts.ensures.here
    ∙ ap (λ (n : Option Fault). notes n (x b.here).faults) c.in_ok-parts.ensures.told ∙ ap (λ (y : spec.Walked Stat). notes c.args.told.now.first y.faults) arm)

pub for_loop-returns-clause-here : goal.for_loop-returns-clause-here
for_loop-returns-clause-here g t c =
    let w = within_of g.W.Word.BITS c.args.functions.now in
    let h = here_of c.args.state in
    let is : tree.For c.args.at c.args.start.now c.args.test.now c.args.step.now c.args.a.now ≡ tree.For c.args.at c.args.start.now c.args.test.now c.args.step.now c.get.result.now = ap (tree.For c.args.at c.args.start.now c.args.test.now c.args.step.now) (sym c.get.ensures) in
    subst (λ (k : spec.Here). IfOk c.behind_for.result (λ r. here_of r.1 ≡ k))
    (for_walk w c.args.around h (tree.For c.args.at c.args.start.now c.args.test.now c.args.step.now c.args.a.now) c.args.at c.args.start.now c.args.test.now c.args.step.now c.get.result.now c.in_block-inner.result c.looped.result (here_of c.in_ok-parts.state) c.in_ok-a.state is
    c.in_block-inner.ensures c.looped.ensures c.in_ok-parts.ensures.here c.in_ok-a.ensures.here)
    c.behind_for.ensures.here

pub switch-sequence-requires : goal.switch-sequence-requires
switch-sequence-requires g t c =
    let begins : c.in_switch-inner.result.start ≤ length (here_of c.without_labels-outer.result.1).names =
    at_most c.in_switch-inner.result.start (length (here_of c.without_labels-outer.result.1).names) (ap (λ (q : Around). q.start) c.in_switch-inner.ensures) in
    search (rules, begins, c.decreases, c.as_slice.ensures)

pub switch-returns-clause-tree : goal.switch-returns-clause-tree
switch-returns-clause-tree g t c =
    let w = within_of g.W.Word.BITS c.args.functions.now in
    let h = here_of c.args.state in
    let own = here_of c.without_labels-outer.result.1 in
    let is : tree.Switch c.args.at c.args.e.now c.args.list.now ≡ tree.Switch c.args.at c.args.e.now c.as_slice.result.now = ap (tree.Switch c.args.at c.args.e.now) (sym c.as_slice.ensures) in
    let bare : own ≡ spec.without_labels h = c.without_labels-outer.ensures.here in
    let begins : c.in_switch-inner.result ≡ spec.in_switch c.args.around h = c.in_switch-inner.ensures ∙ ap (spec.in_switch c.args.around) bare in
    let x = spec.sequence w c.in_switch-inner.result own (map (spec.walk w) c.as_slice.result.now) in
    let arm = switch_walk w c.args.around h (tree.Switch c.args.at c.args.e.now c.args.list.now) c.args.at c.args.e.now c.as_slice.result.now c.in_ok-e.e c.in_switch-inner.result own is c.in_ok-e.ensures.seen begins bare in
    subst (λ (y : Option Stat). IfOk c.behind_switch.result (λ r. r.0 ≡ y)) (ap (two (spec.switch_tree c.args.at) c.in_ok-e.e.tree) c.in_ok-list.ensures.tree ∙ ap (λ (y : spec.Walked Stat). y.tree) arm) c.behind_switch.ensures.tree

pub switch-returns-clause-here : goal.switch-returns-clause-here
switch-returns-clause-here g t c =
    let w = within_of g.W.Word.BITS c.args.functions.now in
    let h = here_of c.args.state in
    let own = here_of c.without_labels-outer.result.1 in
    let is : tree.Switch c.args.at c.args.e.now c.args.list.now ≡ tree.Switch c.args.at c.args.e.now c.as_slice.result.now = ap (tree.Switch c.args.at c.args.e.now) (sym c.as_slice.ensures) in
    let bare : own ≡ spec.without_labels h = c.without_labels-outer.ensures.here in
    let begins : c.in_switch-inner.result ≡ spec.in_switch c.args.around h = c.in_switch-inner.ensures ∙ ap (spec.in_switch c.args.around) bare in
    subst (λ (k : spec.Here). IfOk c.behind_switch.result (λ r. here_of r.1 ≡ k))
    (c.with_labels.ensures ∙ switch_left w c.args.around h (tree.Switch c.args.at c.args.e.now c.args.list.now) c.args.at c.args.e.now c.as_slice.result.now c.in_switch-inner.result own (here_of c.in_ok-list.own) c.without_labels-outer.result.0 is
    begins bare c.without_labels-outer.ensures.labels c.in_ok-list.ensures.here)
    c.behind_switch.ensures.here

pub switch-returns-clause-told : goal.switch-returns-clause-told
switch-returns-clause-told g t c =
    let w = within_of g.W.Word.BITS c.args.functions.now in
    let h = here_of c.args.state in
    let own = here_of c.without_labels-outer.result.1 in
    let is : tree.Switch c.args.at c.args.e.now c.args.list.now ≡ tree.Switch c.args.at c.args.e.now c.as_slice.result.now = ap (tree.Switch c.args.at c.args.e.now) (sym c.as_slice.ensures) in
    let bare : own ≡ spec.without_labels h = c.without_labels-outer.ensures.here in
    let begins : c.in_switch-inner.result ≡ spec.in_switch c.args.around h = c.in_switch-inner.ensures ∙ ap (spec.in_switch c.args.around) bare in
    let x = spec.sequence w c.in_switch-inner.result own (map (spec.walk w) c.as_slice.result.now) in
    let arm = switch_walk w c.args.around h (tree.Switch c.args.at c.args.e.now c.args.list.now) c.args.at c.args.e.now c.as_slice.result.now c.in_ok-e.e c.in_switch-inner.result own is c.in_ok-e.ensures.seen begins bare in
    on_ok c.behind_switch.result (c.in_ok-list.ensures.told ∙ ap (λ (n : Option Fault). notes n x.faults) c.in_ok-e.ensures.told ∙ ap (λ (y : spec.Walked Stat). notes c.args.told.now.first y.faults) arm)

pub case-returns-clause-tree : goal.case-returns-clause-tree
case-returns-clause-tree g t c =
    let w = within_of g.W.Word.BITS c.args.functions.now in
    let h = here_of c.args.state in
    let is : tree.Case c.args.at c.args.e.now c.args.a.now ≡ tree.Case c.args.at c.args.e.now c.get.result.now = ap (tree.Case c.args.at c.args.e.now) (sym c.get.ensures) in
    let v = spec.constant_of g.W.Word.BITS (spec.expression_at w h c.args.e.now).seen.tree in
    let x = spec.walk w c.get.result.now c.args.around in
    let arm = case_walk w c.args.around h (tree.Case c.args.at c.args.e.now c.args.a.now) c.args.at c.args.e.now c.get.result.now is in
    subst (λ (y : Option Stat). IfOk c.behind_case.result (λ r. r.0 ≡ y)) (ap (λ (u : Option ℕ). spec.kept_if c.args.around.labels_stand (two (spec.case_tree c.args.at) u c.in_ok-a.a)) c.in_ok-value.ensures.value
    ∙ ap (λ (y : Option Stat). spec.kept_if c.args.around.labels_stand (two (spec.case_tree c.args.at) v y)) (c.in_ok-a.ensures.tree ∙ ap (λ (k : spec.Here). (x k).tree) c.in_ok-value.ensures.here) ∙ ap (λ (y : spec.Walked Stat). y.tree) arm) c.behind_case.ensures.tree

pub case-returns-clause-here : goal.case-returns-clause-here
case-returns-clause-here g t c =
    let w = within_of g.W.Word.BITS c.args.functions.now in
    let h = here_of c.args.state in
    let is : tree.Case c.args.at c.args.e.now c.args.a.now ≡ tree.Case c.args.at c.args.e.now c.get.result.now = ap (tree.Case c.args.at c.args.e.now) (sym c.get.ensures) in
    let v = spec.constant_of g.W.Word.BITS (spec.expression_at w h c.args.e.now).seen.tree in
    let x = spec.walk w c.get.result.now c.args.around in
    let arm = case_walk w c.args.around h (tree.Case c.args.at c.args.e.now c.args.a.now) c.args.at c.args.e.now c.get.result.now is in
    subst (λ (k : spec.Here). IfOk c.behind_case.result (λ r. here_of r.1 ≡ k)) (c.in_ok-a.ensures.here ∙ ap (λ (k : spec.Here). (x k).here) c.in_ok-value.ensures.here ∙ ap (λ (y : spec.Walked Stat). y.here) arm) c.behind_case.ensures.here

pub case-returns-clause-told : goal.case-returns-clause-told
case-returns-clause-told g t c =
    let w = within_of g.W.Word.BITS c.args.functions.now in
    let h = here_of c.args.state in
    let is : tree.Case c.args.at c.args.e.now c.args.a.now ≡ tree.Case c.args.at c.args.e.now c.get.result.now = ap (tree.Case c.args.at c.args.e.now) (sym c.get.ensures) in
    let v = spec.constant_of g.W.Word.BITS (spec.expression_at w h c.args.e.now).seen.tree in
    let x = spec.walk w c.get.result.now c.args.around in
    let arm = case_walk w c.args.around h (tree.Case c.args.at c.args.e.now c.args.a.now) c.args.at c.args.e.now c.get.result.now is in
    on_ok c.behind_case.result (c.in_ok-a.ensures.told ∙ ap (λ (k : spec.Here). notes c.case_value.new.told.first (x k).faults) c.in_ok-value.ensures.here
    ∙ ap (λ (n : Option Fault). notes n (x (spec.with_case c.args.around h v)).faults) c.in_ok-value.ensures.told ∙ ap (λ (y : spec.Walked Stat). notes c.args.told.now.first y.faults) arm)

pub default-returns-clause-tree : goal.default-returns-clause-tree
default-returns-clause-tree g t c =
    let w = within_of g.W.Word.BITS c.args.functions.now in
    let h = here_of c.args.state in
    let is : tree.Default c.args.at c.args.a.now ≡ tree.Default c.args.at c.get.result.now = ap (tree.Default c.args.at) (sym c.get.ensures) in
    let x = spec.walk w c.get.result.now c.args.around in
    let arm = default_walk w c.args.around h (tree.Default c.args.at c.args.a.now) c.args.at c.get.result.now is in
    subst (λ (y : Option Stat). IfOk c.behind_default.result (λ r. r.0 ≡ y))
    (ap (λ (y : Option Stat). spec.kept_if c.args.around.labels_stand (one (stat.Default c.args.at) y)) (c.in_ok-a.ensures.tree ∙ ap (λ (k : spec.Here). (x k).tree) c.in_ok-state.ensures)
    ∙ ap (λ (y : spec.Walked Stat). y.tree) arm) c.behind_default.ensures.tree

pub default-returns-clause-here : goal.default-returns-clause-here
default-returns-clause-here g t c =
    let w = within_of g.W.Word.BITS c.args.functions.now in
    let h = here_of c.args.state in
    let is : tree.Default c.args.at c.args.a.now ≡ tree.Default c.args.at c.get.result.now = ap (tree.Default c.args.at) (sym c.get.ensures) in
    let x = spec.walk w c.get.result.now c.args.around in
    let arm = default_walk w c.args.around h (tree.Default c.args.at c.args.a.now) c.args.at c.get.result.now is in
    subst (λ (k : spec.Here). IfOk c.behind_default.result (λ r. here_of r.1 ≡ k)) (c.in_ok-a.ensures.here ∙ ap (λ (k : spec.Here). (x k).here) c.in_ok-state.ensures ∙ ap (λ (y : spec.Walked Stat). y.here) arm)
    c.behind_default.ensures.here

pub default-returns-clause-told : goal.default-returns-clause-told
default-returns-clause-told g t c =
    let w = within_of g.W.Word.BITS c.args.functions.now in
    let h = here_of c.args.state in
    let is : tree.Default c.args.at c.args.a.now ≡ tree.Default c.args.at c.get.result.now = ap (tree.Default c.args.at) (sym c.get.ensures) in
    let x = spec.walk w c.get.result.now c.args.around in
    let arm = default_walk w c.args.around h (tree.Default c.args.at c.args.a.now) c.args.at c.get.result.now is in
    on_ok c.behind_default.result (c.in_ok-a.ensures.told ∙ ap (λ (k : spec.Here). notes c.tell_label.new.told.first (x k).faults) c.in_ok-state.ensures
    ∙ ap (λ (n : Option Fault). notes n (x (spec.with_label c.args.around h None)).faults) c.tell_label.ensures ∙ ap (λ (y : spec.Walked Stat). notes c.args.told.now.first y.faults) arm)

pub guarded-returns-clause-tree : goal.guarded-returns-clause-tree
guarded-returns-clause-tree g t c =
    let w = within_of g.W.Word.BITS c.args.functions.now in
    let h = here_of c.args.state in
    c.in_ok-a.ensures.tree ∙ ap (λ (z : Statement). (spec.walk w z c.args.around h).tree) c.get.ensures

pub guarded-returns-clause-here : goal.guarded-returns-clause-here
guarded-returns-clause-here g t c =
    let w = within_of g.W.Word.BITS c.args.functions.now in
    let h = here_of c.args.state in
    c.in_ok-a.ensures.here ∙ ap (λ (z : Statement). (spec.walk w z c.args.around h).here) c.get.ensures

pub guarded-returns-clause-told : goal.guarded-returns-clause-told
guarded-returns-clause-told g t c =
    let w = within_of g.W.Word.BITS c.args.functions.now in
    let h = here_of c.args.state in
    c.in_ok-a.ensures.told ∙ ap (λ (z : Statement). notes c.value_at.new.told.first (spec.walk w z c.args.around h).faults) c.get.ensures
    ∙ ap (λ (n : Option Fault). notes n (spec.walk w c.args.a.now c.args.around h).faults) c.in_ok-e.ensures.told

pub otherwise-returns-clause-tree : goal.otherwise-returns-clause-tree
otherwise-returns-clause-tree g t c =
    let w = within_of g.W.Word.BITS c.args.functions.now in
    let h = here_of c.args.state in
    subst (λ (y : Option Stat). IfOk c.behind_else.result (λ r. r.0 ≡ three (spec.if_else_tree c.args.at) c.args.e c.args.a y))
    (c.in_ok-b.ensures.tree ∙ ap (λ (z : Statement). (spec.walk w z c.args.around h).tree) c.get.ensures) c.behind_else.ensures.tree

pub otherwise-returns-clause-here : goal.otherwise-returns-clause-here
otherwise-returns-clause-here g t c =
    let w = within_of g.W.Word.BITS c.args.functions.now in
    let h = here_of c.args.state in
    subst (λ (k : spec.Here). IfOk c.behind_else.result (λ r. here_of r.1 ≡ k))
    (c.in_ok-b.ensures.here ∙ ap (λ (z : Statement). (spec.walk w z c.args.around h).here) c.get.ensures) c.behind_else.ensures.here

pub otherwise-returns-clause-told : goal.otherwise-returns-clause-told
otherwise-returns-clause-told g t c =
    let w = within_of g.W.Word.BITS c.args.functions.now in
    let h = here_of c.args.state in
    on_ok c.behind_else.result (c.in_ok-b.ensures.told ∙ ap (λ (z : Statement). notes c.args.told.now.first (spec.walk w z c.args.around h).faults) c.get.ensures)

pub statement-returns-in-Block-clause-tree : goal.statement-returns-in-Block-clause-tree
statement-returns-in-Block-clause-tree g t c =
    let w = within_of g.W.Word.BITS c.args.functions.now in
    let h = here_of c.args.state in
    subst (λ (z : Statement). IfOk c.block.result (λ r. r.0 ≡ (spec.walk w z c.args.around h).tree)) (sym c.in-Block.is) c.block.ensures.tree

pub statement-returns-in-Block-clause-here : goal.statement-returns-in-Block-clause-here
statement-returns-in-Block-clause-here g t c =
    let w = within_of g.W.Word.BITS c.args.functions.now in
    let h = here_of c.args.state in
    subst (λ (z : Statement). IfOk c.block.result (λ r. here_of r.1 ≡ (spec.walk w z c.args.around h).here)) (sym c.in-Block.is) c.block.ensures.here

pub statement-returns-in-Block-clause-told : goal.statement-returns-in-Block-clause-told
statement-returns-in-Block-clause-told g t c =
    let w = within_of g.W.Word.BITS c.args.functions.now in
    let h = here_of c.args.state in
    subst (λ (z : Statement). OnOk c.block.result (c.block.new.told.first ≡ notes c.args.told.now.first (spec.walk w z c.args.around h).faults)) (sym c.in-Block.is) c.block.ensures.told

pub statement-returns-in-DoWhile-clause-tree : goal.statement-returns-in-DoWhile-clause-tree
statement-returns-in-DoWhile-clause-tree g t c =
    let w = within_of g.W.Word.BITS c.args.functions.now in
    let h = here_of c.args.state in
    subst (λ (z : Statement). IfOk c.do_loop.result (λ r. r.0 ≡ (spec.walk w z c.args.around h).tree)) (sym c.in-DoWhile.is) c.do_loop.ensures.tree

pub statement-returns-in-DoWhile-clause-here : goal.statement-returns-in-DoWhile-clause-here
statement-returns-in-DoWhile-clause-here g t c =
    let w = within_of g.W.Word.BITS c.args.functions.now in
    let h = here_of c.args.state in
    subst (λ (z : Statement). IfOk c.do_loop.result (λ r. here_of r.1 ≡ (spec.walk w z c.args.around h).here)) (sym c.in-DoWhile.is) c.do_loop.ensures.here

pub statement-returns-in-DoWhile-clause-told : goal.statement-returns-in-DoWhile-clause-told
statement-returns-in-DoWhile-clause-told g t c =
    let w = within_of g.W.Word.BITS c.args.functions.now in
    let h = here_of c.args.state in
    subst (λ (z : Statement). OnOk c.do_loop.result (c.do_loop.new.told.first ≡ notes c.args.told.now.first (spec.walk w z c.args.around h).faults)) (sym c.in-DoWhile.is) c.do_loop.ensures.told

pub statement-returns-in-For-clause-tree : goal.statement-returns-in-For-clause-tree
statement-returns-in-For-clause-tree g t c =
    let w = within_of g.W.Word.BITS c.args.functions.now in
    let h = here_of c.args.state in
    subst (λ (z : Statement). IfOk c.for_loop.result (λ r. r.0 ≡ (spec.walk w z c.args.around h).tree)) (sym c.in-For.is) c.for_loop.ensures.tree

pub statement-returns-in-For-clause-here : goal.statement-returns-in-For-clause-here
statement-returns-in-For-clause-here g t c =
    let w = within_of g.W.Word.BITS c.args.functions.now in
    let h = here_of c.args.state in
    subst (λ (z : Statement). IfOk c.for_loop.result (λ r. here_of r.1 ≡ (spec.walk w z c.args.around h).here)) (sym c.in-For.is) c.for_loop.ensures.here

pub statement-returns-in-For-clause-told : goal.statement-returns-in-For-clause-told
statement-returns-in-For-clause-told g t c =
    let w = within_of g.W.Word.BITS c.args.functions.now in
    let h = here_of c.args.state in
    subst (λ (z : Statement). OnOk c.for_loop.result (c.for_loop.new.told.first ≡ notes c.args.told.now.first (spec.walk w z c.args.around h).faults)) (sym c.in-For.is) c.for_loop.ensures.told

pub statement-returns-in-Switch-clause-tree : goal.statement-returns-in-Switch-clause-tree
statement-returns-in-Switch-clause-tree g t c =
    let w = within_of g.W.Word.BITS c.args.functions.now in
    let h = here_of c.args.state in
    subst (λ (z : Statement). IfOk c.switch.result (λ r. r.0 ≡ (spec.walk w z c.args.around h).tree)) (sym c.in-Switch.is) c.switch.ensures.tree

pub statement-returns-in-Switch-clause-here : goal.statement-returns-in-Switch-clause-here
statement-returns-in-Switch-clause-here g t c =
    let w = within_of g.W.Word.BITS c.args.functions.now in
    let h = here_of c.args.state in
    subst (λ (z : Statement). IfOk c.switch.result (λ r. here_of r.1 ≡ (spec.walk w z c.args.around h).here)) (sym c.in-Switch.is) c.switch.ensures.here

pub statement-returns-in-Switch-clause-told : goal.statement-returns-in-Switch-clause-told
statement-returns-in-Switch-clause-told g t c =
    let w = within_of g.W.Word.BITS c.args.functions.now in
    let h = here_of c.args.state in
    subst (λ (z : Statement). OnOk c.switch.result (c.switch.new.told.first ≡ notes c.args.told.now.first (spec.walk w z c.args.around h).faults)) (sym c.in-Switch.is) c.switch.ensures.told

pub statement-returns-in-Case-clause-tree : goal.statement-returns-in-Case-clause-tree
statement-returns-in-Case-clause-tree g t c =
    let w = within_of g.W.Word.BITS c.args.functions.now in
    let h = here_of c.args.state in
    subst (λ (z : Statement). IfOk c.case.result (λ r. r.0 ≡ (spec.walk w z c.args.around h).tree)) (sym c.in-Case.is) c.case.ensures.tree

pub statement-returns-in-Case-clause-here : goal.statement-returns-in-Case-clause-here
statement-returns-in-Case-clause-here g t c =
    let w = within_of g.W.Word.BITS c.args.functions.now in
    let h = here_of c.args.state in
    subst (λ (z : Statement). IfOk c.case.result (λ r. here_of r.1 ≡ (spec.walk w z c.args.around h).here)) (sym c.in-Case.is) c.case.ensures.here

pub statement-returns-in-Case-clause-told : goal.statement-returns-in-Case-clause-told
statement-returns-in-Case-clause-told g t c =
    let w = within_of g.W.Word.BITS c.args.functions.now in
    let h = here_of c.args.state in
    subst (λ (z : Statement). OnOk c.case.result (c.case.new.told.first ≡ notes c.args.told.now.first (spec.walk w z c.args.around h).faults)) (sym c.in-Case.is) c.case.ensures.told

pub statement-returns-in-Default-clause-tree : goal.statement-returns-in-Default-clause-tree
statement-returns-in-Default-clause-tree g t c =
    let w = within_of g.W.Word.BITS c.args.functions.now in
    let h = here_of c.args.state in
    subst (λ (z : Statement). IfOk c.default.result (λ r. r.0 ≡ (spec.walk w z c.args.around h).tree)) (sym c.in-Default.is) c.default.ensures.tree

pub statement-returns-in-Default-clause-here : goal.statement-returns-in-Default-clause-here
statement-returns-in-Default-clause-here g t c =
    let w = within_of g.W.Word.BITS c.args.functions.now in
    let h = here_of c.args.state in
    subst (λ (z : Statement). IfOk c.default.result (λ r. here_of r.1 ≡ (spec.walk w z c.args.around h).here)) (sym c.in-Default.is) c.default.ensures.here

pub statement-returns-in-Default-clause-told : goal.statement-returns-in-Default-clause-told
statement-returns-in-Default-clause-told g t c =
    let w = within_of g.W.Word.BITS c.args.functions.now in
    let h = here_of c.args.state in
    subst (λ (z : Statement). OnOk c.default.result (c.default.new.told.first ≡ notes c.args.told.now.first (spec.walk w z c.args.around h).faults)) (sym c.in-Default.is) c.default.ensures.told

pub statement-returns-in_ok-e-in-While-clause-tree : goal.statement-returns-in_ok-e-in-While-clause-tree
statement-returns-in_ok-e-in-While-clause-tree g t c =
    let w = within_of g.W.Word.BITS c.args.functions.now in
    let h = here_of c.args.state in
    let v = spec.value_at w h c.in-While.e in
    let arm = while_walk w c.args.around h c.args.s.now c.in-While.at c.in-While.e c.in-While.a v.seen c.looped.result c.in-While.is refl c.looped.ensures in
    subst (λ (y : Option Stat). IfOk c.behind_while.result (λ r. r.0 ≡ y)) (ap (λ (k : Option TypedExpr). two (stat.While c.in-While.at) k c.in_ok-e-in-While.a) c.in_ok-e-in-While.ensures.value
    ∙ ap (two (stat.While c.in-While.at) v.seen.tree) c.in_ok-e-in-While.ensures.tree ∙ ap (λ (y : spec.Walked Stat). y.tree) arm) c.behind_while.ensures.tree

pub statement-returns-in_ok-e-in-While-clause-here : goal.statement-returns-in_ok-e-in-While-clause-here
statement-returns-in_ok-e-in-While-clause-here g t c =
    let w = within_of g.W.Word.BITS c.args.functions.now in
    let h = here_of c.args.state in
    let v = spec.value_at w h c.in-While.e in
    let arm = while_walk w c.args.around h c.args.s.now c.in-While.at c.in-While.e c.in-While.a v.seen c.looped.result c.in-While.is refl c.looped.ensures in
    subst (λ (k : spec.Here). IfOk c.behind_while.result (λ r. here_of r.1 ≡ k)) (c.in_ok-e-in-While.ensures.here ∙ ap (λ (y : spec.Walked Stat). y.here) arm) c.behind_while.ensures.here

pub statement-returns-in_ok-e-in-While-clause-told : goal.statement-returns-in_ok-e-in-While-clause-told
statement-returns-in_ok-e-in-While-clause-told g t c =
    let w = within_of g.W.Word.BITS c.args.functions.now in
    let h = here_of c.args.state in
    let v = spec.value_at w h c.in-While.e in
    let arm = while_walk w c.args.around h c.args.s.now c.in-While.at c.in-While.e c.in-While.a v.seen c.looped.result c.in-While.is refl c.looped.ensures in
    on_ok c.behind_while.result (c.in_ok-e-in-While.ensures.told ∙ ap (λ (y : spec.Walked Stat). notes c.args.told.now.first y.faults) arm)

pub statement-returns-in-None-clause-tree : goal.statement-returns-in-None-clause-tree
statement-returns-in-None-clause-tree g t c =
    let w = within_of g.W.Word.BITS c.args.functions.now in
    let h = here_of c.args.state in
    let is : c.args.s.now ≡ tree.If c.in-If.at c.in-If.e c.in-If.a None = c.in-If.is ∙ ap (tree.If c.in-If.at c.in-If.e c.in-If.a) c.in-None.is in
    let v = spec.value_at w h c.in-If.e in
    let arm = if_walk w c.args.around h c.args.s.now c.in-If.at c.in-If.e c.in-If.a v.seen c.plain-around.result is refl c.plain-around.ensures in
    subst (λ (y : Option Stat). IfOk c.behind_if.result (λ r. r.0 ≡ y)) (ap (λ (k : Option TypedExpr). two (spec.if_tree c.in-If.at) k c.in_ok-e-in-If.a) c.in_ok-e-in-If.ensures.value
    ∙ ap (two (spec.if_tree c.in-If.at) v.seen.tree) c.in_ok-e-in-If.ensures.tree ∙ ap (λ (y : spec.Walked Stat). y.tree) arm) c.behind_if.ensures.tree

pub statement-returns-in-None-clause-here : goal.statement-returns-in-None-clause-here
statement-returns-in-None-clause-here g t c =
    let w = within_of g.W.Word.BITS c.args.functions.now in
    let h = here_of c.args.state in
    let is : c.args.s.now ≡ tree.If c.in-If.at c.in-If.e c.in-If.a None = c.in-If.is ∙ ap (tree.If c.in-If.at c.in-If.e c.in-If.a) c.in-None.is in
    let v = spec.value_at w h c.in-If.e in
    let arm = if_walk w c.args.around h c.args.s.now c.in-If.at c.in-If.e c.in-If.a v.seen c.plain-around.result is refl c.plain-around.ensures in
    subst (λ (k : spec.Here). IfOk c.behind_if.result (λ r. here_of r.1 ≡ k)) (c.in_ok-e-in-If.ensures.here ∙ ap (λ (y : spec.Walked Stat). y.here) arm) c.behind_if.ensures.here

pub statement-returns-in-None-clause-told : goal.statement-returns-in-None-clause-told
statement-returns-in-None-clause-told g t c =
    let w = within_of g.W.Word.BITS c.args.functions.now in
    let h = here_of c.args.state in
    let is : c.args.s.now ≡ tree.If c.in-If.at c.in-If.e c.in-If.a None = c.in-If.is ∙ ap (tree.If c.in-If.at c.in-If.e c.in-If.a) c.in-None.is in
    let v = spec.value_at w h c.in-If.e in
    let arm = if_walk w c.args.around h c.args.s.now c.in-If.at c.in-If.e c.in-If.a v.seen c.plain-around.result is refl c.plain-around.ensures in
    on_ok c.behind_if.result (c.in_ok-e-in-If.ensures.told ∙ ap (λ (y : spec.Walked Stat). notes c.args.told.now.first y.faults) arm)

pub statement-returns-in-Some-clause-tree : goal.statement-returns-in-Some-clause-tree
statement-returns-in-Some-clause-tree g t c =
    let w = within_of g.W.Word.BITS c.args.functions.now in
    let h = here_of c.args.state in
    let is : c.args.s.now ≡ tree.If c.in-If.at c.in-If.e c.in-If.a (Some c.in-Some.b) = c.in-If.is ∙ ap (tree.If c.in-If.at c.in-If.e c.in-If.a) c.in-Some.is in
    let v = spec.value_at w h c.in-If.e in
    let p = c.plain-around.result in
    let x = spec.walk w c.in-If.a p h in
    let y = spec.walk w c.in-Some.b p in
    let arm = else_walk w c.args.around h c.args.s.now c.in-If.at c.in-If.e c.in-If.a c.in-Some.b v.seen p p is refl c.plain-around.ensures c.plain-around.ensures in
    subst (λ (z : Option Stat). IfOk c.otherwise.result (λ r. r.0 ≡ z)) (ap (λ (k : Option TypedExpr). three (spec.if_else_tree c.in-If.at) k c.in_ok-e-in-If.a (y (here_of c.in_ok-e-in-If.state)).tree) c.in_ok-e-in-If.ensures.value
    ∙ ap (λ (k : Option Stat). three (spec.if_else_tree c.in-If.at) v.seen.tree k (y (here_of c.in_ok-e-in-If.state)).tree) c.in_ok-e-in-If.ensures.tree
    ∙ ap (λ (k : spec.Here). three (spec.if_else_tree c.in-If.at) v.seen.tree x.tree (y k).tree) c.in_ok-e-in-If.ensures.here ∙ ap (λ (z : spec.Walked Stat). z.tree) arm) c.otherwise.ensures.tree

pub statement-returns-in-Some-clause-here : goal.statement-returns-in-Some-clause-here
statement-returns-in-Some-clause-here g t c =
    let w = within_of g.W.Word.BITS c.args.functions.now in
    let h = here_of c.args.state in
    let is : c.args.s.now ≡ tree.If c.in-If.at c.in-If.e c.in-If.a (Some c.in-Some.b) = c.in-If.is ∙ ap (tree.If c.in-If.at c.in-If.e c.in-If.a) c.in-Some.is in
    let v = spec.value_at w h c.in-If.e in
    let p = c.plain-around.result in
    let x = spec.walk w c.in-If.a p h in
    let y = spec.walk w c.in-Some.b p in
    let arm = else_walk w c.args.around h c.args.s.now c.in-If.at c.in-If.e c.in-If.a c.in-Some.b v.seen p p is refl c.plain-around.ensures c.plain-around.ensures in
    subst (λ (k : spec.Here). IfOk c.otherwise.result (λ r. here_of r.1 ≡ k)) (ap (λ (k : spec.Here). (y k).here) c.in_ok-e-in-If.ensures.here ∙ ap (λ (z : spec.Walked Stat). z.here) arm) c.otherwise.ensures.here

pub statement-returns-in-Some-clause-told : goal.statement-returns-in-Some-clause-told
statement-returns-in-Some-clause-told g t c =
    let w = within_of g.W.Word.BITS c.args.functions.now in
    let h = here_of c.args.state in
    let is : c.args.s.now ≡ tree.If c.in-If.at c.in-If.e c.in-If.a (Some c.in-Some.b) = c.in-If.is ∙ ap (tree.If c.in-If.at c.in-If.e c.in-If.a) c.in-Some.is in
    let v = spec.value_at w h c.in-If.e in
    let p = c.plain-around.result in
    let x = spec.walk w c.in-If.a p h in
    let y = spec.walk w c.in-Some.b p in
    let arm = else_walk w c.args.around h c.args.s.now c.in-If.at c.in-If.e c.in-If.a c.in-Some.b v.seen p p is refl c.plain-around.ensures c.plain-around.ensures in
    subst (λ (n : Option Fault). OnOk c.otherwise.result (c.otherwise.new.told.first ≡ n)) (ap (λ (k : spec.Here). notes c.guarded.new.told.first (y k).faults) c.in_ok-e-in-If.ensures.here
    ∙ ap (λ (n : Option Fault). notes n (y x.here).faults) c.in_ok-e-in-If.ensures.told ∙ ap (λ (z : spec.Walked Stat). notes c.args.told.now.first z.faults) arm) c.otherwise.ensures.told
