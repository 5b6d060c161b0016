use Rattle.std.proofs.Common.{◌≡◌, ℕ, suc, ◌+◌, ◌<◌, Bool, true, List, length, arith, sym, ap, ◌∙◌}
use Rattle.std.proofs.lemmas.Bool.Decides.{nat_tests}
use Rattle.std.specs.Prelude.{nat_lt, ◌&&◌}
use Rattle.rtl_spelling.specs.Tokens.{Token}
use Rattle.rtl_spelling.specs.Spelling.{Context}
use Rattle.rtl_spelling.specs.Reading.{is_unknown_hole, last_tokens}
use Rattle.rtl_token.specs.Seen.{context_of, tokens_of}
use Rattle.rtl_token.proofs.places.is_name_of_unknown.Goals as goal

named : (x : Context) (ts us : List Token) (n left : ℕ) (r : Bool) → left < n → us ≡ last_tokens (left + 1) ts → r ≡ is_unknown_hole x us
    → r ≡ (nat_lt left n && is_unknown_hole x (last_tokens (suc left) ts))
named x ts us n left r l e h =
    let test : nat_lt left n ≡ true = grind (arith, nat_tests) in
    let next : left + 1 ≡ suc left = omega arith in
    h ∙ ap (is_unknown_hole x) (e ∙ ap (λ k. last_tokens k ts) next) ∙ ap (λ b. b && is_unknown_hole x (last_tokens (suc left) ts)) (sym test)

pub returns-then-left-tokens : goal.returns-then-left-tokens
returns-then-left-tokens c =
    named (context_of c.args.c.now) (tokens_of c.args.tokens.now) (tokens_of c.last_tokens.result.now) (length c.args.tokens.now) c.args.left
    c.is_unknown_hole.result c.if-left-tokens.true c.last_tokens.ensures c.is_unknown_hole.ensures
