use Rattle.std.proofs.Common.{◌≡◌, ◌∙◌, ◌++◌, drop, sym, ap, arith, Ok}
use Rattle.std.proofs.lemmas.List.{take-append-drop}
use Rattle.std.proofs.lemmas.Result.{err_from_is_err_and}
use Rattle.c_lexer.proofs.Reaching.{reached_first, reached_by, not_empty, tokens_reached, fault_reached}
use Rattle.c_lexer.proofs.lexing.tokens_of.Goals as goal

pub loop-rest-init : goal.loop-rest-init
loop-rest-init c = record {
  reached = rw c.new-tokens.ensures.items (reached_first c.args.text.now);
  line = omega arith;
  column = omega arith;
  some = omega arith;
}

pub loop-rest-preserved : goal.loop-rest-preserved
loop-rest-preserved c = record {
  reached =
      reached_by c.split_at.result.0.now c.split_at.result.1.now c.in_ok-kind.kind c.behind-line.result c.behind-at.result c.push_token.new.tokens.items
      c.loop-rest.invariant.reached
      (c.in_ok-kind.ensures.exact ∙ ap (λ t. Ok (record { bytes = t; token = c.in_ok-kind.kind })) (sym c.split_at.ensures.front))
      (sym (take-append-drop c.in_ok-kind.length c.loop-rest.rest.now) ∙ ap (λ t. t ++ drop c.in_ok-kind.length c.loop-rest.rest.now) (sym c.split_at.ensures.front)
      ∙ ap (λ t. c.split_at.result.0.now ++ t) (sym c.split_at.ensures.back))
      c.behind-line.ensures
      c.behind-at.ensures.exact
      c.in_ok-push_token.ensures;
  line = omega (arith, c.split_at.ensures.front_len, c.split_at.ensures.back_len);
  column = omega (arith, c.split_at.ensures.front_len, c.split_at.ensures.back_len);
  some = c.behind-at.ensures.some;
}

pub returns-in_err-kind-clause-broken : goal.returns-in_err-kind-clause-broken
returns-in_err-kind-clause-broken c =
    let p = err_from_is_err_and c.from_residual.result c.from_residual.ensures.1 in
    rw (p.1, p.2) (fault_reached _ c.loop-rest.invariant.reached (not_empty _ _ c.is_empty.ensures c.loop-rest-test.true) c.in_err-kind.ensures.exact)
