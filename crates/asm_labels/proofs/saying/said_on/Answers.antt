use Rattle.std.proofs.Common.{◌≡◌, Bool, true, false, sym, ◌∙◌}
use Rattle.asm_labels.proofs.Says.{too_long_said, skipped_said, no_tokens_said, tokens_said}
use Rattle.asm_labels.proofs.saying.said_on.Goals as goal

not_both : (b : Bool) → b ≡ true → b ≡ false → ⊥
not_both b e f = cc

pub returns-then-line-gt640 : goal.returns-then-line-gt640
returns-then-line-gt640 c = too_long_said c.args.line.now c.if-line-gt640.true

pub returns-then-is_skipped : goal.returns-then-is_skipped
returns-then-is_skipped c = skipped_said c.args.line.now c.if-line-gt640.false (sym c.is_skipped.ensures ∙ c.if-is_skipped.true)

pub returns-then-not-are_tokens : goal.returns-then-not-are_tokens
returns-then-not-are_tokens c =
    no_tokens_said c.args.line.now c.if-line-gt640.false (sym c.is_skipped.ensures ∙ c.if-is_skipped.false) (λ l. not_both c.are_tokens.result (c.are_tokens.ensures.1 l) c.if-not-are_tokens.true)

pub returns : goal.returns
returns c = tokens_said c.args.line.now c.by_tokens.result c.if-line-gt640.false (sym c.is_skipped.ensures ∙ c.if-is_skipped.false) (c.are_tokens.ensures.0 c.if-not-are_tokens.false) c.by_tokens.ensures
