use Rattle.std.proofs.Common.{ap, sym, ◌∙◌, length}
use Rattle.rtl_spelling.specs.Tokens.{spelled}
use Rattle.rtl_text.specs.Answering.{fault_at}
use Rattle.rtl_text.specs.Seen.{tokens_of}
use Rattle.rtl_token.specs.declared.fault.TextFault.TheVariants as fault
use Rattle.rtl_text.proofs.Outcomes.{taken_tokens}
use Rattle.rtl_text.proofs.calls.fault.Goals as goal

pub returns-in-Wrong : goal.returns-in-Wrong
returns-in-Wrong c =
    ap fault.BadForm (c.place.ensures ∙ ap (λ ts. length (spelled ts)) (taken_tokens c.args.tokens.now c.in-Wrong.left))
    ∙ sym (ap (fault_at (tokens_of c.args.tokens.now)) c.in-Wrong.is)

pub returns-in-Deep : goal.returns-in-Deep
returns-in-Deep c =
    ap fault.TooDeep (c.place-in-Deep.ensures ∙ ap (λ ts. length (spelled ts)) (taken_tokens c.args.tokens.now c.in-Deep.left))
    ∙ sym (ap (fault_at (tokens_of c.args.tokens.now)) c.in-Deep.is)
