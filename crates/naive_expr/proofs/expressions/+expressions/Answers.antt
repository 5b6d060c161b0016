use Rattle.std.proofs.Common.{◌+◌, [], ◌∷◌, sym, ap, subst, ◌∙◌, drop, arith}
use Rattle.rtl_word.specs.declared.Rel.{Rel}
use Rattle.c_tree.specs.declared.types.CType.{CType}
use Rattle.c_limits.specs.Frames.{word_bytes}
use Rattle.c_meaning.specs.Operators as meaning
use Rattle.naive_code.specs.Operations as operation
use Rattle.naive_code.specs.Expressions as code
use Rattle.naive_code.specs.Expressions.{naive}
use Rattle.naive_expr.specs.Seen.{site_of}
use Rattle.naive_expr.specs.Emitted.{Adds, Brings, Decides}
use Rattle.naive_expr.specs.Sorts.{sort_in}
use Rattle.naive_expr.specs.Operands.{values_of}
use Rattle.naive_expr.proofs.Gathering.{next_item}
use Rattle.naive_expr.proofs.Values.{compound_adds, compound_at, joined_adds, compared_adds, before_adds, after_adds, called_adds, changed_adds, call_value, put_value, if_ok_then}
use Rattle.naive_expr.proofs.expressions.+expressions.Goals as goal

pub call-returns-in_ok-values-in-Defined-clause-adds : goal.call-returns-in_ok-values-in-Defined-clause-adds
call-returns-in_ok-values-in-Defined-clause-adds t c =
    let es = values_of (site_of c.args.site.now) c.args.es.now in
    let bytes = word_bytes c.args.site.now.bits in
    let results = c.as_slice.ensures ∙ c.in_ok-values-in-Defined.ensures.at in
    if_ok_then _ _ c.push_call.result
    (λ r h. subst (λ f. Brings c.args.out.now c.push_call.new.out (code.call_of bytes f es) c.args.depth) (sym c.in-Defined.is)
    (called_adds _ _ _ _ bytes c.in-Defined.f _ c.args.depth es _ c.in_ok-label-in-Defined.ensures.adds c.in_ok-label-in-Defined.ensures.first c.in_ok-values-in-Defined.ensures.adds results h))
    c.push_call.ensures.adds

pub call-returns-in_ok-push_output-in-len1-up-clause-adds : goal.call-returns-in_ok-push_output-in-len1-up-clause-adds
call-returns-in_ok-push_output-in-len1-up-clause-adds t c =
    let x = site_of c.args.site.now in
    let is = next_item c.args.es.now 0 _ (omega (arith, c.in-len1-up.len_at_least)) c.first-item.is in
    subst (λ (v : code.Value). Brings c.args.out.now c.push_output.new.out v c.args.depth)
    (put_value x c.first-item.result c.args.es.now (drop 1 c.args.es.now) c.args.f is c.in-Putchar.is)
    (changed_adds _ _ _ _ (naive x c.first-item.result).value 1 (λ d. (d + 1) ∷ [])
    (λ v u. operation.set_result v ∷ operation.put_output ∷ operation.constant u 255 ∷ operation.Meet v u ∷ []) c.args.depth _ _
    c.in_ok-value-in-len1-up.ensures.adds c.in_ok-value-in-len1-up.ensures.at c.in_ok-spare-in-len1-up.ensures.adds c.in_ok-spare-in-len1-up.ensures.first
    c.in_ok-push_output-in-len1-up.ensures)

pub call-returns-in_ok-push_output-in-len1-up-clause-at : goal.call-returns-in_ok-push_output-in-len1-up-clause-at
call-returns-in_ok-push_output-in-len1-up-clause-at t c =
    let x = site_of c.args.site.now in
    let is = next_item c.args.es.now 0 _ (omega (arith, c.in-len1-up.len_at_least)) c.first-item.is in
    c.in_ok-value-in-len1-up.ensures.at
    ∙ ap (λ (v : code.Value). v.result c.args.out.now.next_temp) (put_value x c.first-item.result c.args.es.now (drop 1 c.args.es.now) c.args.f is c.in-Putchar.is)

pub compound-returns-clause-adds : goal.compound-returns-clause-adds
compound-returns-clause-adds t c =
    let x = site_of c.args.site.now in
    let a = naive x c.args.a.now in
    let b = naive x c.args.b.now in
    let bytes = word_bytes c.args.site.now.bits in
    let depth = ap (λ n. c.args.depth + n) c.beside.ensures.depth in
    if_ok_then _ _ c.settle.result
    (λ r h. subst (λ (of : CType). Brings c.args.out.now c.settle.new.out (code.compound bytes c.args.operation of a.place b.of b.value) c.args.depth) (sym (c.type_of-of.ensures x))
    (subst (λ (by : CType). Brings c.args.out.now c.settle.new.out (code.compound bytes c.args.operation c.type_of-of.result a.place by b.value) c.args.depth) (sym (c.type_of.ensures x))
    (compound_adds _ _ _ _ _ _ _ _ _ _ _ bytes _ _ c.args.operation _ _ a.place b.value _ c.args.depth _ _ _ _
    c.in_ok-label.ensures.adds c.operation_labels.ensures.labels c.in_ok-label.ensures.first c.in_ok-place.ensures.adds c.in_ok-place.ensures.opened depth
    c.in_ok-value.ensures.adds c.in_ok-value.ensures.first c.in_ok-get.ensures c.in_ok-operand.ensures.adds c.in_ok-operand.ensures.at
    c.in_ok-spare.ensures.adds c.in_ok-spare.ensures.first c.in_ok-combine.ensures c.in_ok-push_narrow.ensures c.in_ok-put.ensures h)))
    c.settle.ensures.adds

pub compound-returns-clause-at : goal.compound-returns-clause-at
compound-returns-clause-at t c =
    let x = site_of c.args.site.now in
    let a = naive x c.args.a.now in
    let b = naive x c.args.b.now in
    if_ok_then _ _ c.settle.result
    (λ r h. compound_at _ _ _ (word_bytes c.args.site.now.bits) _ c.args.operation a.of b.of a.place b.value _ c.args.depth _ _
    c.in_ok-label.ensures.adds c.in_ok-place.ensures.adds c.in_ok-place.ensures.opened c.in_ok-value.ensures.first h)
    c.settle.ensures.at

pub compute-returns-clause-adds : goal.compute-returns-clause-adds
compute-returns-clause-adds t c =
    let x = site_of c.args.site.now in
    let a = naive x c.args.a.now in
    let b = naive x c.args.b.now in
    joined_adds _ _ _ _ a.value b.value (code.computed c.args.operator a.of) c.args.depth _ _ c.in_ok-x.ensures.adds c.in_ok-x.ensures.at c.in_ok-y.ensures.adds c.in_ok-y.ensures.at
    (subst (λ (of : CType). Adds c.expand_value-2.new.out c.push_computation.new.out (code.computed c.args.operator of c.in_ok-x.x c.in_ok-y.y) [] 0 0)
    (sym (c.type_of.ensures x)) c.in_ok-push_computation.ensures)

pub decide-returns-in_ok-y-in-Compares : goal.decide-returns-in_ok-y-in-Compares
decide-returns-in_ok-y-in-Compares t c =
    let x = site_of c.args.site.now in
    let a = naive x c.args.a.now in
    let b = naive x c.args.b.now in
    let sort = sym c.sort_of.ensures ∙ ap sort_in c.in-Compares.is in
    let relation = c.relation_in.ensures ∙ ap (λ (of : CType). meaning.relation_in of c.in-Compares.signed c.in-Compares.unsigned) (sym (c.type_of.ensures x)) in
    if_ok_then _ _ c.push_branch.result
    (λ r h. subst (λ (k : meaning.Sort). Decides c.args.out.now c.push_branch.new.out (code.truth_of a.of k a b) c.args.jump c.args.depth) (sym sort)
    (subst (λ (q : Rel). Decides c.args.out.now c.push_branch.new.out (code.compared q a.value b.value) c.args.jump c.args.depth) relation
    (compared_adds _ _ _ _ c.relation_in.result a.value b.value c.args.jump c.args.depth _ _ c.in_ok-x-in-Compares.ensures.adds c.in_ok-x-in-Compares.ensures.at
    c.in_ok-y-in-Compares.ensures.adds c.in_ok-y-in-Compares.ensures.at h)))
    c.push_branch.ensures

pub expand_value-returns-in-Call-clause-adds : goal.expand_value-returns-in-Call-clause-adds
expand_value-returns-in-Call-clause-adds t c =
    let x = site_of c.args.site.now in
    if_ok_then _ _ c.call.result
    (λ r h. subst (λ (v : code.Value). Brings c.args.out.now c.call.new.out v c.args.depth) (call_value x c.args.e.now _ _ _ _ c.in-Call.is c.as_slice.ensures) h)
    c.call.ensures.adds

pub expand_value-returns-in-Call-clause-at : goal.expand_value-returns-in-Call-clause-at
expand_value-returns-in-Call-clause-at t c =
    let x = site_of c.args.site.now in
    if_ok_then _ _ c.call.result
    (λ r h. h ∙ ap (λ (v : code.Value). v.result c.args.out.now.next_temp) (call_value x c.args.e.now _ _ _ _ c.in-Call.is c.as_slice.ensures))
    c.call.ensures.at

pub step_after-returns-clause-adds : goal.step_after-returns-clause-adds
step_after-returns-clause-adds t c =
    let x = site_of c.args.site.now in
    let a = naive x c.args.a.now in
    let depth = ap (λ n. c.args.depth + n) c.beside.ensures.depth in
    if_ok_then _ _ c.settle.result
    (λ r h. subst (λ (of : CType). Brings c.args.out.now c.settle.new.out (code.stepped_after c.args.operator of a.place) c.args.depth) (sym (c.type_of.ensures x))
    (after_adds _ _ _ _ _ _ _ _ c.args.operator _ a.place _ c.args.depth _ _ c.in_ok-place.ensures.adds c.in_ok-place.ensures.opened depth
    c.in_ok-old.ensures.adds c.in_ok-old.ensures.first c.in_ok-get.ensures c.in_ok-emit.ensures c.in_ok-push_step.ensures c.in_ok-put.ensures h))
    c.settle.ensures.adds

pub step_before-returns-clause-adds : goal.step_before-returns-clause-adds
step_before-returns-clause-adds t c =
    let x = site_of c.args.site.now in
    let a = naive x c.args.a.now in
    let depth = ap (λ n. c.args.depth + n) c.beside.ensures.depth in
    if_ok_then _ _ c.settle.result
    (λ r h. subst (λ (of : CType). Brings c.args.out.now c.settle.new.out (code.stepped_before c.args.operator of a.place) c.args.depth) (sym (c.type_of.ensures x))
    (before_adds _ _ _ _ _ _ _ c.args.operator _ a.place _ c.args.depth _ _ c.in_ok-place.ensures.adds c.in_ok-place.ensures.opened depth
    c.in_ok-value.ensures.adds c.in_ok-value.ensures.first c.in_ok-get.ensures c.in_ok-push_step.ensures c.in_ok-put.ensures h))
    c.settle.ensures.adds
