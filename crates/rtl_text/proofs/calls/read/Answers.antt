use Rattle.std.proofs.lemmas.Result.{err_from_is_err_and}
use Rattle.rtl_text.specs.Seen.{context_of}
use Rattle.rtl_text.proofs.Outcomes.{not_lexed}
use Rattle.rtl_text.proofs.calls.read.Goals as goal

pub returns-in_err-tokens : goal.returns-in_err-tokens
returns-in_err-tokens c =
    let p = err_from_is_err_and c.from_residual.result c.from_residual.ensures.1 in
    rw (p.1, p.2) (not_lexed (context_of c.args.c.now) c.args.text.now c.in_err-tokens.field-0.0 c.in_err-tokens.ensures.stuck)
