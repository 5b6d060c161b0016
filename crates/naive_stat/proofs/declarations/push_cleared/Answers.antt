use Rattle.naive_expr.proofs.Values.{if_ok_then}
use Rattle.naive_stat.proofs.Declaring.{cleared_adds}
use Rattle.naive_stat.proofs.declarations.push_cleared.Goals as goal

pub returns : goal.returns
returns c =
    if_ok_then _ _ c.push_turn.result
    (λ r h. cleared_adds _ _ _ _ _ _ _ _ _ _ _ _ c.args.of c.args.step c.args.from c.args.to c.in_ok-t.t c.in_ok-label.label c.in_ok-t.ensures.adds c.in_ok-t.ensures.first c.in_ok-label.ensures.adds c.in_ok-label.ensures.first
    c.in_ok-emit.ensures c.in_ok-emit-2.ensures c.in_ok-emit-3.ensures c.in_ok-emit-4.ensures c.in_ok-emit-5.ensures c.in_ok-emit-6.ensures c.in_ok-emit-7.ensures c.in_ok-emit-8.ensures h)
    c.push_turn.ensures
