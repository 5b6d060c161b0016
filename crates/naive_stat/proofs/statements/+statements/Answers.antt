use Rattle.std.proofs.Common.{◌≡◌, ◌<◌, ◌+◌, [], ◌∷◌, ◌++◌, length, List, refl, ap, sym, subst, ◌∙◌, arith}
use Rattle.c_tree.specs.declared.typed.Stat.{Stat}
use Rattle.naive_code.specs.Operations.{Close, Jumps}
use Rattle.naive_code.specs.Expressions.{naive}
use Rattle.naive_code.specs.Statements.{Around, Steps, evaluated, labelled, started, steps_of, test_in, valued}
use Rattle.naive_expr.specs.Seen.{site_of}
use Rattle.naive_expr.specs.Emitted.{Adds}
use Rattle.naive_expr.proofs.Values.{if_ok_then}
use Rattle.naive_stat.specs.Cases.{cases_of, compared, default_of, placed}
use Rattle.naive_stat.specs.Runs.{Runs, around_of, block_steps}
use Rattle.naive_stat.proofs.Folds.{declare_is, evaluate_is, while_is, do_is, for_is, return_is}
use Rattle.naive_stat.proofs.Labels.{labelled_cases, cases_next}
use Rattle.naive_stat.proofs.Loops.{for_adds}
use Rattle.naive_stat.proofs.NoCases.{locals_none}
use Rattle.naive_stat.proofs.Resting.{block_left, block_next}
use Rattle.naive_stat.proofs.Switching.{switch_adds}
use Rattle.naive_stat.proofs.statements.+statements.Goals as goal

pub expand_stat-returns-in_ok-expand_locals-in-Declare-clause-steps : goal.expand_stat-returns-in_ok-expand_locals-in-Declare-clause-steps
expand_stat-returns-in_ok-expand_locals-in-Declare-clause-steps t c =
    subst (λ (p : Steps). Runs c.args.out.now c.expand_locals.new.out p (around_of c.args.around))
    (declare_is (site_of c.args.site.now) c.args.locals.now c.args.s.now _ _ c.as_slice-in-Declare.result.now c.in-Declare.is c.as_slice-in-Declare.ensures)
    (c.in_ok-expand_locals-in-Declare.ensures (around_of c.args.around))

pub expand_stat-returns-in_ok-expand_locals-in-Declare-clause-cases : goal.expand_stat-returns-in_ok-expand_locals-in-Declare-clause-cases
expand_stat-returns-in_ok-expand_locals-in-Declare-clause-cases t c =
    let x = site_of c.args.site.now in
    let locals = c.args.locals.now in
    ap cases_of c.new-in-Declare.ensures
    ∙ ap (placed c.args.out.now.next_label)
    (sym (locals_none x locals c.as_slice-in-Declare.result.now) ∙ ap (λ (p : Steps). p.cases) (declare_is x locals c.args.s.now _ _ c.as_slice-in-Declare.result.now c.in-Declare.is c.as_slice-in-Declare.ensures))

pub expand_stat-returns-in_ok-expand_optional-in-Evaluate-clause-steps : goal.expand_stat-returns-in_ok-expand_optional-in-Evaluate-clause-steps
expand_stat-returns-in_ok-expand_optional-in-Evaluate-clause-steps t c =
    subst (λ (p : Steps). Runs c.args.out.now c.expand_optional.new.out p (around_of c.args.around)) (evaluate_is (site_of c.args.site.now) c.args.locals.now c.args.s.now _ _ c.in-Evaluate.is)
    (c.in_ok-expand_optional-in-Evaluate.ensures (around_of c.args.around))

pub expand_stat-returns-in_ok-while_loop-in-While-clause-steps : goal.expand_stat-returns-in_ok-while_loop-in-While-clause-steps
expand_stat-returns-in_ok-while_loop-in-While-clause-steps t c =
    subst (λ (p : Steps). Runs c.args.out.now c.while_loop.new.out p (around_of c.args.around))
    (while_is (site_of c.args.site.now) c.args.locals.now c.args.s.now _ _ _ c.get-in-While.result.now c.in-While.is c.get-in-While.ensures)
    (c.in_ok-while_loop-in-While.ensures (around_of c.args.around))

pub expand_stat-returns-in_ok-do_loop-in-DoWhile-clause-steps : goal.expand_stat-returns-in_ok-do_loop-in-DoWhile-clause-steps
expand_stat-returns-in_ok-do_loop-in-DoWhile-clause-steps t c =
    subst (λ (p : Steps). Runs c.args.out.now c.do_loop.new.out p (around_of c.args.around))
    (do_is (site_of c.args.site.now) c.args.locals.now c.args.s.now _ _ _ c.get-in-DoWhile.result.now c.in-DoWhile.is c.get-in-DoWhile.ensures)
    (c.in_ok-do_loop-in-DoWhile.ensures (around_of c.args.around))

pub expand_stat-returns-in_ok-for_loop-in-For-clause-steps : goal.expand_stat-returns-in_ok-for_loop-in-For-clause-steps
expand_stat-returns-in_ok-for_loop-in-For-clause-steps t c =
    subst (λ (p : Steps). Runs c.args.out.now c.for_loop.new.out p (around_of c.args.around))
    (for_is (site_of c.args.site.now) c.args.locals.now c.args.s.now _ _ _ _ _ c.get-in-For.result.now c.in-For.is c.get-in-For.ensures)
    (c.in_ok-for_loop-in-For.ensures (around_of c.args.around))

pub expand_stat-returns-in_ok-expand_return-in-Return-clause-steps : goal.expand_stat-returns-in_ok-expand_return-in-Return-clause-steps
expand_stat-returns-in_ok-expand_return-in-Return-clause-steps t c =
    subst (λ (p : Steps). Runs c.args.out.now c.expand_return.new.out p (around_of c.args.around)) (return_is (site_of c.args.site.now) c.args.locals.now c.args.s.now _ _ c.in-Return.is)
    (c.in_ok-expand_return-in-Return.ensures (around_of c.args.around))

pub for_loop-returns : goal.for_loop-returns
for_loop-returns t c =
    let x = site_of c.args.site.now in
    let locals = c.args.locals.now in
    if_ok_then _ _ c.close-3.result
    (λ r h around. for_adds x locals _ _ _ _ _ _ _ _ _ (started x locals c.args.first.now) (test_in x locals c.args.test.now) (evaluated x locals c.args.step.now) (steps_of x locals c.args.a.now) around c.in_ok-label.label
    c.in_ok-label.ensures.adds c.in_ok-label.ensures.first c.in_ok-expand_start.ensures c.in_ok-close.ensures c.in_ok-expand_optional_test.ensures c.in_ok-expand_stat.ensures.steps c.in_ok-close-2.ensures
    c.in_ok-expand_optional.ensures h)
    c.close-3.ensures

pub labelled-returns-clause-cases : goal.labelled-returns-clause-cases
labelled-returns-clause-cases t c =
    let x = site_of c.args.site.now in
    let locals = c.args.locals.now in
    let p = steps_of x locals c.args.a.now in
    let first = c.in_ok-label.ensures.first in
    let behind : c.close.new.self.next_label ≡ c.in_ok-label.label + 1 = omega (arith, first, c.in_ok-label.ensures.adds.label, c.in_ok-close.ensures.label) in
    labelled_cases x locals c.args.value p c.in_ok-label.label c.close.new.self.next_label c.new-cases.result c.push.new.self c.append.new.self c.in_ok-more.more c.new-cases.ensures c.in_ok-push.ensures.ok c.in_ok-append.ensures behind
    c.in_ok-more.ensures.cases
    ∙ ap (λ l. placed l (labelled x locals c.args.value p).cases) first

pub sequence-loop-s-preserved : goal.sequence-loop-s-preserved
sequence-loop-s-preserved t c =
    let x = site_of c.args.site.now in
    let locals = c.args.locals.now in
    let ss = c.args.ss.now in
    let n = c.loop-s.s-index in
    let lt : n < length ss = omega arith in
    let runs = subst (λ (s : Stat). Runs c.loop-s.out c.expand_stat.new.out (steps_of x locals s) (around_of c.args.around)) c.get.ensures c.in_ok-more.ensures.steps in
    let cases = subst (λ (s : Stat). cases_of c.in_ok-more.more ≡ placed c.loop-s.out.next_label (steps_of x locals s).cases) c.get.ensures c.in_ok-more.ensures.cases in (
      block_left ss n c.s-item.result lt c.s-item.is c.loop-s.invariant.0,
      block_next x locals ss n c.s-item.result c.args.out.now c.loop-s.out c.expand_stat.new.out (block_steps x locals ss) (around_of c.args.around) lt c.s-item.is c.loop-s.invariant.1 runs,
      cases_next x locals ss n c.s-item.result c.loop-s.out.next_label c.expand_stat.new.out.next_label c.loop-s.cases c.append.new.self c.in_ok-more.more _ lt c.s-item.is runs.label cases c.in_ok-append.ensures
          c.loop-s.invariant.2,
    )

pub switch-returns : goal.switch-returns
switch-returns t c =
    let x = site_of c.args.site.now in
    let locals = c.args.locals.now in
    let p = block_steps x locals c.args.list.now in
    let h = c.in_ok-append.ensures in
    let first = subst (λ k. Adds c.take_labels.new.self c.take_labels-2.new.self [] [] 0 k) c.from.ensures c.in_ok-first.ensures.adds in
    let dispatch = subst (λ cs. Adds c.fresh_equal.new.self c.push_dispatch.new.out (compared c.in_ok-value.value c.in_ok-temp.temp c.in_ok-first.first (cases_of cs) ++ Close (Jumps (default_of c.in_ok-label.label (cases_of cs))) (c.in_ok-label.label + 1) ∷ []) [] 0 0)
    c.as_slice.ensures c.in_ok-push_dispatch.ensures in
    let same = c.as_slice-ss.ensures in
    let inner : Around = record { breaks = c.in_ok-label.label; continues = c.args.around.continues } in
    let count = c.in_ok-count.ensures x locals ∙ ap (λ (k : List Stat). valued x locals (block_steps x locals k).cases) same in
    let runs = subst (λ (k : List Stat). Runs c.behind-body.result c.sequence.new.out (block_steps x locals k) inner) same c.in_ok-cases.ensures.steps in
    let cases = c.in_ok-cases.ensures.cases ∙ ap (λ (k : List Stat). placed c.behind-body.result.next_label (block_steps x locals k).cases) same in
    if_ok_then _ _ c.close.result
    (λ r last. switch_adds x locals _ _ _ _ _ _ _ _ _ _ (naive x c.args.e.now).value p (around_of c.args.around) inner c.in_ok-count.count c.in_ok-label.label c.in_ok-first.first c.in_ok-value.value c.in_ok-temp.temp (cases_of c.in_ok-cases.cases)
    count c.in_ok-label.ensures.adds c.in_ok-label.ensures.first first c.in_ok-first.ensures.first c.in_ok-value.ensures.adds c.in_ok-value.ensures.at
    c.in_ok-temp.ensures.adds c.in_ok-temp.ensures.first refl c.behind-body.ensures runs cases dispatch h.ops h.depths h.temp h.label last)
    c.close.ensures
