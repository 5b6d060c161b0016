use Rattle.std.proofs.Common.{◌≡◌, ℕ, suc, ◌+◌, ◌-◌, List, length, arith, sym, subst, ◌∙◌, Result}
use Rattle.std.proofs.lemmas.Result.{err_from_is_err_and}
use Rattle.rtl_spelling.specs.Spelling.{Context, Said}
use Rattle.rtl_spelling.specs.Reading.{Trouble}
use Rattle.rtl_token.specs.Gives.{Fails}
use Rattle.rtl_text.specs.Seen.{context_of, said_by, tokens_of}
use Rattle.md_open.proofs.MovesRead.{failed, ended, onward}
use Rattle.md_open.proofs.transfers.read_moves.Goals as goal

pub returns-in_err-assignment : goal.returns-in_err-assignment
returns-in_err-assignment c =
    let x : Context = context_of c.args.c.now in
    let n : ℕ = length c.args.tokens.now - c.loop.counter in
    let k : ℕ = length c.args.tokens.now - (c.loop.counter + 1) in
    let more : n ≡ suc k = omega arith in
    let P : Result (List Said) Trouble → Type 0 = λ r. Fails c.in_err-assignment.field-0.0 r in
    let p = err_from_is_err_and c.from_residual.result c.from_residual.ensures.1 in
    rw (p.1, p.2) (subst P c.loop.invariant (failed x c.loop.moves n k (tokens_of c.loop.rest.now) c.in_err-assignment.field-0.0 more c.in_err-assignment.ensures))

pub returns-then-is_last : goal.returns-then-is_last
returns-then-is_last c =
    let x : Context = context_of c.args.c.now in
    let n : ℕ = length c.args.tokens.now - c.loop.counter in
    let k : ℕ = length c.args.tokens.now - (c.loop.counter + 1) in
    let more : n ≡ suc k = omega arith in
    sym c.loop.invariant
    ∙ ended x c.loop.moves c.push.new.self n k (tokens_of c.loop.rest.now) (tokens_of c.in_ok-assignment.behind.now) (said_by c.in_ok-assignment.assignment) c.in_ok-assignment.is_last more
    c.in_ok-assignment.ensures c.if-is_last.true c.in-Ok.ensures.ok

pub loop-preserved : goal.loop-preserved
loop-preserved c =
    let x : Context = context_of c.args.c.now in
    let n : ℕ = length c.args.tokens.now - c.loop.counter in
    let k : ℕ = length c.args.tokens.now - (c.loop.counter + 1) in
    let more : n ≡ suc k = omega arith in
    sym (onward x c.loop.moves c.push.new.self n k (tokens_of c.loop.rest.now) (tokens_of c.in_ok-assignment.behind.now) (said_by c.in_ok-assignment.assignment) c.in_ok-assignment.is_last more
    c.in_ok-assignment.ensures c.if-is_last.false c.in-Ok.ensures.ok)
    ∙ c.loop.invariant
