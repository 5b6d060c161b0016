use Rattle.std.proofs.Common.{◌≡◌, ℕ, suc, ◌+◌, ◌-◌, List, Option, Ok, length, arith, sym, ap, subst, ◌∙◌}
use Rattle.std.specs.Option.{option_map}
use Rattle.rtl_tree.specs.Moves.{Move}
use Rattle.rtl_spelling.specs.Tokens.{Token}
use Rattle.rtl_spelling.specs.Spelling.{Context}
use Rattle.rtl_spelling.specs.Reading.{Read, moves}
use Rattle.rtl_token.specs.Gives.{Fails}
use Rattle.std.proofs.lemmas.Result.{err_from_is_err_and}
use Rattle.rtl_text.specs.Collected.{collects}
use Rattle.rtl_text.specs.Seen.{context_of, said_by, tokens_of}
use Rattle.rtl_text.proofs.Collecting.{failed, ended, onward}
use Rattle.rtl_text.proofs.gathering.transfer.Goals as goal

pub returns-in_err-a : goal.returns-in_err-a
returns-in_err-a c =
    let x : Context = context_of c.args.c.now in
    let n : ℕ = length c.args.tokens.now - c.loop.counter in
    let k : ℕ = length c.args.tokens.now - (c.loop.counter + 1) in
    let made : Option (List Move) = option_map (λ m. m.items) c.loop.made in
    let more : n ≡ suc k = omega arith in
    let P : Read (Option (List Move)) → Type 0 = λ r. Fails c.in_err-a.field-0.0 r in
    let p = err_from_is_err_and c.from_residual.result c.from_residual.ensures.1 in
    rw (p.1, p.2) (subst P c.loop.invariant (failed x made n k (tokens_of c.loop.rest.now) c.in_err-a.field-0.0 more c.in_err-a.ensures))

pub returns-then-is_last : goal.returns-then-is_last
returns-then-is_last c =
    let x : Context = context_of c.args.c.now in
    let n : ℕ = length c.args.tokens.now - c.loop.counter in
    let k : ℕ = length c.args.tokens.now - (c.loop.counter + 1) in
    let made : Option (List Move) = option_map (λ m. m.items) c.loop.made in
    let behind : List Token = tokens_of c.in_ok-a.behind.now in
    let more : n ≡ suc k = omega arith in
    let found : Option (List Move) → Read (Option (List Move)) = λ o. Ok (o, behind) in
    sym c.loop.invariant
    ∙ ended x made n k (tokens_of c.loop.rest.now) behind (said_by c.in_ok-a.a) c.in_ok-a.is_last more c.in_ok-a.ensures c.if-is_last.true
    ∙ ap found (sym c.in_ok-made.ensures)

pub loop-preserved : goal.loop-preserved
loop-preserved c =
    let x : Context = context_of c.args.c.now in
    let n : ℕ = length c.args.tokens.now - c.loop.counter in
    let k : ℕ = length c.args.tokens.now - (c.loop.counter + 1) in
    let made : Option (List Move) = option_map (λ m. m.items) c.loop.made in
    let behind : List Token = tokens_of c.in_ok-a.behind.now in
    let more : n ≡ suc k = omega arith in
    ap (λ o. collects o (moves x 31 k behind)) c.in_ok-made.ensures
    ∙ sym (onward x made n k (tokens_of c.loop.rest.now) behind (said_by c.in_ok-a.a) c.in_ok-a.is_last more c.in_ok-a.ensures c.if-is_last.false)
    ∙ c.loop.invariant
