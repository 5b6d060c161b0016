use Rattle.std.proofs.Common.{◌+◌, sym, ap, ◌∙◌}
use Rattle.naive_code.specs.Statements.{valued}
use Rattle.naive_expr.proofs.Values.{if_ok_then}
use Rattle.naive_stat.proofs.Folds.{case_valued, default_valued, no_case}
use Rattle.naive_stat.proofs.cases.+values_of.Goals as goal

pub returns-in_ok-values_of-in-Case : goal.returns-in_ok-values_of-in-Case
returns-in_ok-values_of-in-Case t c =
    if_ok_then _ _ c.sum.result
    (λ n h x locals. h ∙ (ap (λ k. 1 + k) (c.in_ok-values_of-in-Case.ensures x locals) ∙ case_valued x locals c.args.s.now _ c.get.result.now _ _ c.in-Case.is c.get.ensures))
    c.sum.ensures

pub returns-in-Default : goal.returns-in-Default
returns-in-Default t c =
    if_ok_then _ _ c.values_of-in-Default.result
    (λ n h x locals. h x locals ∙ default_valued x locals c.args.s.now _ c.get-in-Default.result.now _ c.in-Default.is c.get-in-Default.ensures)
    c.values_of-in-Default.ensures

pub returns-in_default : goal.returns-in_default
returns-in_default t c = λ x locals. ap (valued x locals) (sym (no_case x locals c.args.s.now c.in_default.not-Case c.in_default.not-Default))
