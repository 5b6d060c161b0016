use Rattle.std.proofs.Common.{ℕ, ◌+◌, ◌*◌, sym, subst}
use Rattle.asm_token.proofs.Digits.{DigitsTo, one_digit}
use Rattle.asm_token.proofs.token.leading_digits.Goals as goal

pub loop-length-preserved : goal.loop-length-preserved
loop-length-preserved c =
    let P : ℕ → Type 0 = λ d. DigitsTo c.args.text.now (c.loop-length.length + 1) (c.loop-length.value * 10 + d) in
    subst P (sym c.from.ensures)
    (one_digit c.args.text.now c.loop-length.length c.loop-length.value c.loop-length.invariant c.loop-length-test.true c.if-length-text.true
    (sym c.if-is_ascii_digit.ensures.value))
